pub mod DeviceTold
pub mod Device
pub mod Saying
pub mod Plan
pub mod Hearing
pub mod Laws
-- What the layers above cite of those below.
pub use Rattle.server_tsm.specs as server_tsm
pub use Rattle.server_tsm.specs.server_answers as server_answers
