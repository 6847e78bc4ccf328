pub mod Says
pub mod Unsaid
pub mod Printed
pub mod Issued
