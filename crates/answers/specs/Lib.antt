pub mod Stop
pub mod Answer
-- What the layers above cite of those below.
pub use Rattle.objects.specs as objects
pub use Rattle.objects.specs.object_model as object_model
