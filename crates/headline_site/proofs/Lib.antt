pub mod Lists
pub mod Standing
pub mod Steps
pub mod Reached
pub mod Promised
pub mod Outcomes
pub mod Executions
pub mod Hearings
pub mod Contracts
pub mod Placed
-- What the proofs above cite of those below.
pub use Rattle.headline_client.proofs.headline_bacnet as headline_bacnet
pub use Rattle.headline_client.proofs as headline_client
pub use Rattle.headline_device.proofs as headline_device
pub use Rattle.headline_device.proofs.headline_server as headline_server
