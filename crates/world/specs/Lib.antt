pub mod World
pub mod Acting
pub mod Hearing
pub mod Step
pub mod Doing
pub mod Dues
pub mod Refusals
pub mod Resting
pub mod Laws
pub mod Old
pub mod Keeping
pub mod Straying
pub mod Tables
-- What the layers above cite of those below.
pub use Rattle.site_events.specs as site_events
pub use Rattle.world_log.specs as world_log
pub use Rattle.world_log.specs.carry_world as carry_world
pub use Rattle.world_sites.specs as world_sites
pub use Rattle.world_log.specs.headline_client as headline_client
pub use Rattle.world_log.specs.headline_bacnet as headline_bacnet
pub use Rattle.world_log.specs.client as client
pub use Rattle.world_log.specs.device as device
pub use Rattle.world_log.specs.link_site as link_site
pub use Rattle.world_log.specs.node_laws as node_laws
pub use Rattle.world_sites.specs.site as site
pub use Rattle.world_log.specs.site_node as site_node
pub use Rattle.world_log.specs.site_ports as site_ports
pub use Rattle.world_sites.specs.site_views as site_views
pub use Rattle.world_log.specs.carry_ends as carry_ends
