pub mod PacketLaws
