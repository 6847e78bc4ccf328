pub mod Site
pub mod Repeats
pub mod Silence
pub mod Parts
pub mod Histories
pub mod Premises
