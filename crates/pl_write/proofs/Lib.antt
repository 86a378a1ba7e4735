mod BatchLaws
mod BatchingLaws
mod BlockLaws
mod CountLaws
mod DigitLaws
mod DoubledLaws
pub mod FormLaws
mod HeldLaws
pub mod KeptLaws
mod LeftLaws
mod LineLaws
pub mod OptionsEqualLaws
mod PaddedLaws
mod PointLaws
pub mod PrintLaws
pub mod PrintedLaws
pub mod PutLaws
pub mod SourceLaws
mod SpecialLaws
pub mod StackLaws
mod StripLaws
mod WordLaws
pub mod WriteLaws
