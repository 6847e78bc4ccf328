pub mod Standing
pub mod FindingLaws
pub mod ActingLaws
pub mod PastLaws
pub mod EventLaws
pub mod Refusing
pub mod Foreign
pub mod MacLaws
pub mod HearingLaws
pub mod FreshLaws
pub mod CopyLaws
pub mod Dues
-- What the proofs above cite of those below.
pub use Rattle.world_log.proofs.carry_world as carry_world
pub use Rattle.world_sites.proofs as world_sites
pub use Rattle.world_log.proofs.headline_client as headline_client
pub use Rattle.world_log.proofs.link_site as link_site
pub use Rattle.world_log.proofs.node_laws as node_laws
pub use Rattle.world_log.proofs.site_ports as site_ports
pub use Rattle.world_log.proofs.carry_ends as carry_ends
