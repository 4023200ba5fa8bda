pub mod AckFrequencies
pub mod Acks
pub mod PendingAcks
pub mod Runs
