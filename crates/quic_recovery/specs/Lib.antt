pub mod Live
pub mod Over
pub mod State
