pub mod Counts
pub mod Datagrams
pub mod Ends
pub mod Turns
pub mod Wires
