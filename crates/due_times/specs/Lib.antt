pub mod Times
pub mod Until
