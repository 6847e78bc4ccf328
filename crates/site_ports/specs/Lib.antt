pub mod Drafts
pub mod Ports
-- What the layers above cite of those below.
pub use Rattle.link_site.specs as link_site
pub use Rattle.link_site.specs.link_bus as link_bus
