pub mod PutLaws
pub mod LogLaws
pub mod SaidLaws
pub mod KeyLaws
pub mod NumberLaws
pub mod IssueLaws
-- What the proofs above cite of those below.
pub use Rattle.carry_ends.proofs.carry_world as carry_world
pub use Rattle.carry_ends.proofs.carry_world.headline_client as headline_client
pub use Rattle.node_laws.proofs.link_site as link_site
pub use Rattle.node_laws.proofs as node_laws
pub use Rattle.node_laws.proofs.site_ports as site_ports
pub use Rattle.carry_ends.proofs as carry_ends
