pub mod PrintedTexts
pub mod CellTexts
pub mod Kinds
pub mod Nulls
pub mod Changes
pub mod Swaps
pub mod Verbatim
