mod PacerBalanceLaws
pub mod ReportedTimeLaws
mod ReportedTimeRows
pub mod PacerLogLaws
mod PacerLogRows
mod PacingRows
pub mod PaidLogLaws
mod PaidLogRows
pub mod ProgressLaws
pub mod RenoCounts
pub mod RenoRounds
pub mod RoundLaws
pub mod RttLaws
