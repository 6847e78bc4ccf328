pub mod Times
pub mod Limits
pub mod LinkKind
pub mod Ages
