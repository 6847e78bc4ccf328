pub mod Parameter
pub mod ClassAndCode
-- What the layers above cite of those below.
pub use Rattle.primitives.specs as primitives
pub use Rattle.primitives.specs.tags as tags
