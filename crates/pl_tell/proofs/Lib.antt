pub mod RecordLaws
pub mod WordLaws
