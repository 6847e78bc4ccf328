pub mod Ends
-- What the layers above cite of those below.
pub use Rattle.carry_world.specs as carry_world
pub use Rattle.headline_ends.specs as headline_ends
