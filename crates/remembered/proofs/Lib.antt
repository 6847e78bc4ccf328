pub mod Keeping
pub mod Ordering
pub mod Living
pub mod Places
