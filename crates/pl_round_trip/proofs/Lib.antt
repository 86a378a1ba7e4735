pub mod CalendarLaws
pub mod ClockLaws
pub mod DayLaws
mod Known
pub mod FieldLaws
pub mod MomentLaws
pub mod NumeralLaws
pub mod PartLaws
pub mod PlainLaws
pub mod PointLaws
pub mod TextLaws
pub mod UndoubleLaws
pub mod ValueLaws
pub mod WholeLaws
mod NullFieldLaws
mod CutLaws
mod CellTextLaws
mod RowTextLaws
mod FrameRowLaws
mod TailLaws
mod StepLaws
pub mod WrittenLaws
mod MeantLaws
pub mod FitCellLaws
pub mod FitRowLaws
pub mod HeadTextLaws
