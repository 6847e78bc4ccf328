pub mod Accepts
pub mod Binding
pub mod Limits
