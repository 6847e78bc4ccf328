pub mod Inside
pub mod View
pub mod Routed
pub mod Laws
