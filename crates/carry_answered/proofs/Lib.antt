pub mod Speaking
pub mod Asked
pub mod Free
pub mod Forgotten
pub mod Replied
pub mod Exchange
