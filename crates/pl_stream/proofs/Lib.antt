pub mod OptionLaws
pub mod NewLaws
pub mod WholeLaws
pub mod HeadLaws
pub mod WholeItemLaws
pub mod StayLaws
pub mod SettledLaws
pub mod TextLaws
pub mod ReadingLaws
pub mod PrintLaws
pub mod StandLaws
pub mod HeadingLaws
pub mod BoundLaws
pub mod StepLaws
pub mod SettlingLaws
pub mod SteppingLaws
pub mod FeedLaws
pub mod FedLaws
mod StreamingLaws
mod RunLaws
pub mod EndLaws
pub mod FinishLaws
