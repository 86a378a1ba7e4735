pub mod Nearest
pub mod Shown
