pub mod Parts
pub mod Hearing
pub mod Issues
