pub mod Datagrams
pub mod Frames
pub mod Things
pub mod Passing
pub mod Ports
pub mod Laws
