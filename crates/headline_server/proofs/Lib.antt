pub mod Listed
pub mod Records
pub mod Receiving
pub mod Sending
pub mod Saying
pub mod Keeping
pub mod Staying
pub mod Going
pub mod Served
pub mod Executing
pub mod Waking
pub mod Heard
-- What the proofs above cite of those below.
pub use Rattle.headline_bacnet.proofs as headline_bacnet
pub use Rattle.server_tsm.proofs as server_tsm
