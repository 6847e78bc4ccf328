pub mod Sizes
pub mod Pieces
pub mod Refining
pub mod Speaking
pub mod Places
pub mod Sending
pub mod Reading
