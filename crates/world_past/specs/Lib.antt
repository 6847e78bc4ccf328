pub mod Laws
pub mod Refusing
pub mod Running
pub mod Strays
pub mod Forgetting
