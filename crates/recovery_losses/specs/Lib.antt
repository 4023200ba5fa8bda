pub mod Due
pub mod Frames
pub mod DetectionPass
pub mod Losses
pub mod PersistentCongestion
pub mod Timeouts
pub mod Variables
