pub mod AroundLaws
mod AsciiLaws
pub mod BufferLaws
pub mod CastLaws
pub mod CastWorkerLaws
pub mod ColumnLaws
pub mod CutLaws
pub mod DateAtLaws
pub mod DateLaws
pub mod DecimalAtLaws
pub mod DecimalLaws
pub mod EnumLaws
pub mod IntegerLaws
pub mod JoinLaws
pub mod LaneLaws
mod MadeLaws
pub mod NullEqualLaws
pub mod NullLaws
pub mod PlaceLaws
pub mod PlacedLaws
pub mod QuotingLaws
mod Rows
pub mod SecondsAtLaws
pub mod SeenLaws
pub mod TextSeenLaws
pub mod TimeLaws
