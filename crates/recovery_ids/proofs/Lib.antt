pub mod DeadlineLaws
pub mod IterLaws
mod LocalIdRows
pub mod QueueLaws
pub mod RemoteStepLaws
mod RemoteStepRows
mod RepeatLaws
pub mod RiseLaws
pub mod SetLaws
pub mod StateLaws
pub mod IdWindowLaws
