pub mod Feeding
pub mod Refusals
