pub mod Reach
pub mod Passing
pub mod Laws
pub mod Worked
