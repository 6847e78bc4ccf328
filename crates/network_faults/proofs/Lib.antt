pub mod IssuedLaws
pub mod SaysLaws
