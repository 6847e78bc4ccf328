-- What the layers above cite of those below.
pub use Rattle.simulator.specs.world_log as world_log
