pub mod ClientTold
pub mod Client
pub mod Hearing
pub mod Issuing
pub mod Plan
pub mod Laws
pub mod Saying
-- What the layers above cite of those below.
pub use Rattle.client_tsm.specs as client_tsm
