pub mod Puts
pub mod Buses
pub mod Finding
pub mod Hearing
pub mod Laws
pub mod Forgetting
