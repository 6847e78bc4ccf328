pub mod SameLaws
pub mod SomeLaws
pub mod ToldLaws
pub mod VerdictLaws
