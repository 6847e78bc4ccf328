pub mod Executed
pub mod ServerTold
pub mod Limits
pub mod Said
pub mod Gathering
pub mod Answering
pub mod Plan
-- What the layers above cite of those below.
pub use Rattle.services.specs as services
pub use Rattle.remembered.specs as remembered
