pub mod Finding
pub mod Nodes
pub mod Opening
pub mod Fit
pub mod Buses
pub mod Places
pub mod Directory
pub mod Listening
pub mod Laws
-- What the layers above cite of those below.
pub use Rattle.node_laws.specs.carry_said.headline_site.headline_device as headline_device
pub use Rattle.object_model.specs as object_model
pub use Rattle.node_laws.specs.site_node.client as client
pub use Rattle.node_laws.specs.site_node.device as device
pub use Rattle.node_laws.specs.carry_said.server_answers as server_answers
pub use Rattle.node_laws.specs.carry_said as carry_said
pub use Rattle.node_laws.specs.site_node.client.client_tsm as client_tsm
pub use Rattle.node_laws.specs.carry_said.server_tsm as server_tsm
pub use Rattle.site.specs as site
pub use Rattle.site_views.specs as site_views
