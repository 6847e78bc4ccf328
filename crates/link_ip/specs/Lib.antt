pub mod Port
pub mod Saying
pub mod Hearing
pub mod Steps
pub mod CarryLaws
