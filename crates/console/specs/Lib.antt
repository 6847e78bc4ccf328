pub mod Builtin
pub mod Hearing
pub mod Respond
pub mod Answer
pub mod Summary
pub mod Explain
-- What the layers above cite of the crates below.
pub use Rattle.printing.specs as printing
