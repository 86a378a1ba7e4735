pub mod Intake
pub mod Texts
pub mod Handed
