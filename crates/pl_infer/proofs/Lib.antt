pub mod FieldTypeLaws
pub mod SchemaLaws
pub mod NameLaws
mod SampleLaws
mod ColumnTypeLaws
pub mod InferenceLaws
