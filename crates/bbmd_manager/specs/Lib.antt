pub mod State
pub mod Manager
