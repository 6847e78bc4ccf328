pub mod Remainder
pub mod FrameType
pub mod Frame
pub mod Heard
pub mod Feeding
pub mod Front
pub mod Laws
