pub mod Lists
pub mod Sizes
pub mod Events
pub mod Kept
pub mod Keys
pub mod Seeing
pub mod Staying
pub mod Promised
pub mod Legal
pub mod Told
pub mod Executed
-- What the proofs above cite of those below.
pub use Rattle.carry_said.proofs as carry_said
pub use Rattle.carry_said.proofs.headline_client as headline_client
