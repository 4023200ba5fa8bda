pub mod PacketLists
