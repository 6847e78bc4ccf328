pub mod Printed
-- What the layers above cite of the crate below.
pub use Rattle.names.specs as names
