pub mod Node
pub mod Part
pub mod Stamping
pub mod Manager
pub mod Plan
pub mod Steps
pub mod Refusals
-- What the layers above cite of those below.
pub use Rattle.client.specs as client
pub use Rattle.device.specs as device
pub use Rattle.carry.specs as carry
pub use Rattle.site_ports.specs.link_site as link_site
pub use Rattle.site_ports.specs as site_ports
pub use Rattle.site_ports.specs.link_bus as link_bus
