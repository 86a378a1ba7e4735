mod CodeLaws
pub mod AheadLaws
pub mod ConvertLaws
pub mod CountingLaws
pub mod DueLaws
pub mod FaultLaws
mod FitTestLaws
pub mod MadeCellLaws
pub mod MadeInputLaws
pub mod MadeReadLaws
pub mod MakingLaws
pub mod MatchingLaws
pub mod NumberingLaws
pub mod OutcomeLaws
pub mod ReturnLaws
pub mod RunLaws
pub mod SourceLaws
pub mod StatusLaws
pub mod TellLaws
pub mod TranscodeLaws
