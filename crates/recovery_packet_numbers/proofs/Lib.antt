pub mod SkipCountLaws
pub mod DrawLaws
pub mod DrawRangeLaws
pub mod SkipLaws
