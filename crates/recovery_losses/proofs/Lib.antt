pub mod FrameLaws
pub mod DetectionPassLaws
pub mod LossLaws
pub mod PersistentCongestionLaws
mod TimeoutRows
pub mod TriesLaws
pub mod RoomLaws
pub mod EarliestLaws
