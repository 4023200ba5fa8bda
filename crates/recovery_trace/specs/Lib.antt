pub mod EventTimes
pub mod Qlog
pub mod Report
pub mod States
pub mod Trace
pub mod Turns
