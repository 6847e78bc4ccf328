pub mod Places
mod Saying
pub mod Acting
mod Sending
mod Gathered
pub mod Hearing
pub mod Waking
mod Issuing
pub mod Learning
pub mod Hears
pub mod Laws
pub mod Heard
-- What the proofs above cite of those below.
pub use Rattle.headline_bacnet.proofs as headline_bacnet
pub use Rattle.client.proofs.client_tsm as client_tsm
