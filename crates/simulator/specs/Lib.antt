pub mod Laws
pub mod Heard
pub mod Judged
pub mod Runs
pub mod Flows
pub mod Quiet
pub mod Ended
-- What the layers above cite of those below.
pub use Rattle.world.specs as world
pub use Rattle.world.specs.world_log as world_log
pub use Rattle.world.specs.world_sites as world_sites
pub use Rattle.world.specs.carry_world as carry_world
pub use Rattle.world.specs.site_node as site_node
