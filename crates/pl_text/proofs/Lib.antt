pub mod DateLaws
pub mod TimeLaws
