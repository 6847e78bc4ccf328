pub mod Quiet
pub mod Site
pub mod Full
pub mod Managers
pub mod Ports
pub mod Nodes
pub mod Stays
pub mod Opening
