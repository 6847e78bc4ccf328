pub mod Places
pub mod Timely
pub mod Names
pub mod Meaning
pub mod Full
pub mod Arms
pub mod Kept
pub mod Planned
pub mod Busy
pub mod Silent
pub mod Fitted
pub mod Quiet
pub mod Dues
-- What the proofs above cite of those below.
pub use Rattle.server_answers.proofs.remembered as remembered
