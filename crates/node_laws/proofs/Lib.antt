mod Addresses
mod Managers
mod Following
pub mod Passing
pub mod Staying
pub mod Saying
-- What the proofs above cite of those below.
pub use Rattle.carry_said.proofs as carry_said
pub use Rattle.site_node.proofs.link_site as link_site
pub use Rattle.site_node.proofs.site_ports as site_ports
