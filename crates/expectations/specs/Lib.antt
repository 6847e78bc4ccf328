pub mod Errors
pub mod Outcomes
pub mod Values
pub mod Says
pub mod Unsaid
pub mod Printed
-- What the layers above cite of the crate below.
pub use Rattle.network_faults.specs as network_faults
