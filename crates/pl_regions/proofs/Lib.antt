pub mod RegionLaws
pub mod ArrivingLaws
pub mod PrintingLaws
pub mod LimitLaws
