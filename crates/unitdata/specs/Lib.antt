pub mod Hearing
pub mod Heard
pub mod Asking
pub mod Saying
pub mod Laws
pub mod Sizes
