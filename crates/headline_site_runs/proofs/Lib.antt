pub mod Silence
pub mod Lost
pub mod Restart
pub mod Segments
pub mod Begins
