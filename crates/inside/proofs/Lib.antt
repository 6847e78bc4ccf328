pub mod Insides
pub mod Nothing
pub mod Routing
