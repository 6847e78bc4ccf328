pub mod Machine
pub mod Failure
pub mod Laws
-- What the layers above cite of those below.
pub use Rattle.object_model.specs as object_model
pub use Rattle.object_model.specs.primitives as primitives
