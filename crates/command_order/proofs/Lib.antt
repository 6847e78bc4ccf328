pub mod CommandLaws
pub mod OrderLaws
