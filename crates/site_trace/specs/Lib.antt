pub mod Lines
pub mod Naming
