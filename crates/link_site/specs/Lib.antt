pub mod Port
pub mod Things
pub mod Steps
pub mod Laws
pub mod CarryLaws
-- What the layers above cite of those below.
pub use Rattle.link_bus.specs as link_bus
