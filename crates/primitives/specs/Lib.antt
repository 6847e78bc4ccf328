pub mod Errors
pub mod Numbers
pub mod Properties
pub mod Sound
pub mod Answers
-- What the layers above cite of those below.
pub use Rattle.tags.specs as tags
