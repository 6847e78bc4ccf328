pub mod Asked
pub mod Counting
pub mod Printed
-- What the layers above cite of those below.
pub use Rattle.faulty_flow.specs as faulty_flow
pub use Rattle.faulty_flow.specs.simulator as simulator
