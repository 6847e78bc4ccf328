pub mod Small
pub mod Heard
pub mod Long
