pub mod Lines
pub mod Raging
pub mod Waits
pub mod Counting
pub mod Counted
pub mod Storming
-- What the layers above cite of those below.
pub use Rattle.site_run.specs as site_run
pub use Rattle.words.specs as words
