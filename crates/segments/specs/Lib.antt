pub mod Pieces
pub mod Receiver
pub mod Sender
pub mod Laws
