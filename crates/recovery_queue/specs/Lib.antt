pub mod Items
pub mod Queues
pub mod Slots
