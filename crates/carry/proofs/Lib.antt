pub mod Passed
pub mod Datagrams
pub mod Ports
pub mod Frames
pub mod Routers
pub mod Managers
