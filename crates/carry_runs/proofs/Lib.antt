pub mod Puts
pub mod Fresh
pub mod Parcels
pub mod Misnamed
pub mod Crossing
pub mod Distributing
pub mod Illegal
