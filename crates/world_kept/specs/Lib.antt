pub mod Kept
pub mod Deeds
pub mod Growing
-- What the layers above cite of those below.
pub use Rattle.simulator.specs as simulator
pub use Rattle.simulator.specs.world as world
pub use Rattle.simulator.specs.world_log as world_log
pub use Rattle.simulator.specs.carry_world as carry_world
