pub mod FirstCause
pub mod ColumnLists
pub mod Options
pub mod ReaderBytes
pub mod Text
