pub mod AckFrames
pub mod BottleneckView
pub mod Bottlenecks
pub mod RandomEvents
pub mod Schedules
pub mod Sojourns
pub mod Ways
pub mod Writes
