pub mod Tables
pub mod Times
pub mod Reaching
pub mod Reached
pub mod Worked
pub mod Apart
