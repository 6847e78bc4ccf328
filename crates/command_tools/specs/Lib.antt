pub mod Describing
pub mod Starting
pub mod Words
