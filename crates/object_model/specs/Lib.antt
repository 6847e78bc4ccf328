pub mod Identifiers
pub mod Levels
pub mod Objects
pub mod Reading
pub mod Writing
pub mod Site
pub mod Places
pub mod Supported
-- What the layers above cite of those below.
pub use Rattle.primitives.specs as primitives
pub use Rattle.primitives.specs.tags as tags
pub use Rattle.profile.specs as profile
