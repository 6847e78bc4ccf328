pub mod Laps
pub mod Printed
pub mod Running
pub mod Runs
pub mod Steps
