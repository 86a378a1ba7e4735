pub mod Ends
pub mod Entries
pub mod Tables
pub mod Index
pub mod Laws
pub mod Rows
