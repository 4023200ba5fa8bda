pub mod FilterView
pub mod Filters
pub mod Skips
