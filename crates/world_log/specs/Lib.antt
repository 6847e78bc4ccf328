pub mod Kept
pub mod Issues
pub mod Growing
pub mod Log
-- What the layers above cite of those below.
pub use Rattle.carry_ends.specs.carry_world.carry_said as carry_said
pub use Rattle.carry_ends.specs.carry_world as carry_world
pub use Rattle.carry_ends.specs.carry_world.headline_bacnet as headline_bacnet
pub use Rattle.carry_ends.specs.carry_world.headline_client as headline_client
pub use Rattle.node_laws.specs.client as client
pub use Rattle.node_laws.specs.device as device
pub use Rattle.node_laws.specs.link_site as link_site
pub use Rattle.node_laws.specs as node_laws
pub use Rattle.node_laws.specs.site_node as site_node
pub use Rattle.node_laws.specs.site_ports as site_ports
pub use Rattle.carry_ends.specs as carry_ends
