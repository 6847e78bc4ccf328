pub mod Step
pub mod Up
pub mod Limits
pub mod Carrying
