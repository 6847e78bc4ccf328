pub mod Judged
-- What the layers above cite of those below.
pub use Rattle.verdicts.specs as verdicts
pub use Rattle.verdicts.specs.expectations as expectations
