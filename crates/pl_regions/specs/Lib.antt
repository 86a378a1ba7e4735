pub mod Regions
pub mod Printing
pub mod Limits
pub mod Arriving
