pub mod CidQueue
pub mod CidState
pub mod LocalIds
pub mod RemoteIds
pub mod RemoteStep
pub mod Window
