pub mod Verdicts
pub mod Laws
-- What the layers above cite of the crate below.
pub use Rattle.expectations.specs as expectations
