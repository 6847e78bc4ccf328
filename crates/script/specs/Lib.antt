pub mod Expecting
pub mod Lines
pub mod NoSteps
pub mod Numbers
pub mod Reading
pub mod Steps
