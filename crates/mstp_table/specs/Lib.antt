pub mod Node
pub mod Table
pub mod Laws
pub mod Rows
