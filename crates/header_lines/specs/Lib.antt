pub mod Heard
pub mod Text
