pub mod Flows
-- What the layers above cite of those below.
pub use Rattle.simulator.specs as simulator
