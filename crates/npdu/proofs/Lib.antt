pub mod CanonicalLaws
pub mod FieldLaws
pub mod HeaderLaws
pub mod SpellingLaws
pub mod Stations
pub mod RejectedLaws
