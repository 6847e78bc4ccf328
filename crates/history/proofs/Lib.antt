pub mod Lists
pub mod HasLaws
pub mod Pieces
pub mod Last
pub mod Past
