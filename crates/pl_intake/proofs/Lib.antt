pub mod IntakeLaws
pub mod TextLaws
pub mod HandedLaws
