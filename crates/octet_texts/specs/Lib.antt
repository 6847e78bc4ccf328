pub mod Pairs
pub mod Lists
pub mod Dumps
pub mod Says
