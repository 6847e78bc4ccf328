pub mod Out
pub mod Laws
pub mod Stands
pub mod Says
-- What the layers above cite of those below.
pub use Rattle.carry_said.specs as carry_said
pub use Rattle.site_node.specs.client as client
pub use Rattle.site_node.specs.device as device
pub use Rattle.site_node.specs.link_site as link_site
pub use Rattle.site_node.specs as site_node
pub use Rattle.site_node.specs.site_ports as site_ports
pub use Rattle.site_node.specs.link_bus as link_bus
