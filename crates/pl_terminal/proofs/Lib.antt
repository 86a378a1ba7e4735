pub mod NearestLaws
pub mod ShownLaws
