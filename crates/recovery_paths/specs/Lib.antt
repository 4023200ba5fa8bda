pub mod Balance
pub mod PathBounds
pub mod PathPair
pub mod PathLog
pub mod PathMaking
pub mod PathStates
pub mod Responses
