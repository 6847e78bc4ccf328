pub mod Parcels
pub mod Devices
pub mod Clients
pub mod Hearing
-- What the proofs above cite of those below.
pub use Rattle.headline_site.proofs as headline_site
pub use Rattle.headline_site.proofs.headline_client as headline_client
