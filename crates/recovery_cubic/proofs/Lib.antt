pub mod CubicRounds
mod CubicRows
pub mod CurveLaws
pub mod FollowingLaws
pub mod GrowthLaws
pub mod RealLaws
pub mod TurnLaws
