pub mod AmongLaws
pub mod CarryLaws
pub mod CoherentLaws
pub mod CountLaws
pub mod HeardLaws
pub mod LedgerLaws
mod LogRows
pub mod PacketLaws
pub mod ReceivedLaws
pub mod SpaceAckLaws
pub mod SpaceLaws
pub mod TrackedLaws
