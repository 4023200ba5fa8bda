mod BurstCounts
pub mod BurstCallLaws
pub mod BurstRunLaws
mod BurstTies
pub mod DiscoveryLaws
pub mod MtuEntryLaws
mod DiscoveryRows
mod RunRows
pub mod SearchRunLaws
mod SearchTies
pub mod UnsearchedLaws
