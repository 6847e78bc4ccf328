pub mod Open
pub mod Said
pub mod Asking
pub mod Waking
pub mod Client
pub mod Issuing
pub mod Hearing
pub mod Steps
pub mod Planned
pub mod Laws
-- What the layers above cite of those below.
pub use Rattle.services.specs as services
