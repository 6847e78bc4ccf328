pub mod Crossing
pub mod Distributing
pub mod Illegal
