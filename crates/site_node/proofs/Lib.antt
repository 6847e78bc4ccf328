mod Quiet
mod Dues
mod Stamps
pub mod Planning
pub mod Nodes
pub mod NodeKeeping
-- What the proofs above cite of those below.
pub use Rattle.carry.proofs as carry
pub use Rattle.site_ports.proofs.link_site as link_site
pub use Rattle.site_ports.proofs as site_ports
