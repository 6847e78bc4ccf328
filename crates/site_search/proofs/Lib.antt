pub mod SearchLaws
pub mod WordLaws
