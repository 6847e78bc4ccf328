pub mod Lists
pub mod Tests
pub mod Pieces
pub mod Book
pub mod Legal
