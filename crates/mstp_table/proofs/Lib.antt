pub mod Leaves
pub mod Picking
pub mod Rounds
pub mod Hearing
