mod FrontLaws
mod QuoteLaws
mod CutLaws
mod PlainLaws
mod LineLaws
mod NumberedLaws
mod FollowedLaws
mod RowLaws
