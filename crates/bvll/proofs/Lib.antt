pub mod Causes
pub mod Refusals
pub mod Tables
pub mod Unique
