pub mod Places
pub mod Roles
pub mod Names
