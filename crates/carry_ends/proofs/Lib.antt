pub mod Issuers
pub mod Waking
pub mod Ends
-- What the proofs above cite of those below.
pub use Rattle.carry_world.proofs as carry_world
