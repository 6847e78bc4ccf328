pub mod Within
pub mod Productions
pub mod Position
pub mod Notes
-- What the layers above cite of the crate below.
pub use Rattle.printing.specs as printing
