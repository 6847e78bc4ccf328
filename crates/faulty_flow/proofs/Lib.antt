pub mod TurnLaws
-- What the proofs above cite of those below.
pub use Rattle.simulator.proofs as simulator
