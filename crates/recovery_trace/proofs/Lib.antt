pub mod GoingLaws
pub mod KeptLaws
pub mod StateTextLaws
pub mod TraceLaws
pub mod TurnLaws
