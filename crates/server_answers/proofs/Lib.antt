pub mod Askers
-- What the proofs above cite of those below.
pub use Rattle.services.proofs as services
pub use Rattle.remembered.proofs as remembered
