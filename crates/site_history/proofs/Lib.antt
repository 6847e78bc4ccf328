pub mod AskedLaws
pub mod PrintLaws
-- What the proofs above cite of those below.
pub use Rattle.faulty_flow.proofs.simulator as simulator
