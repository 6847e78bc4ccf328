pub mod Waking
pub mod Server
pub mod Places
pub mod Hearing
pub mod Steps
pub mod Laws
-- What the layers above cite of those below.
pub use Rattle.server_answers.specs.remembered as remembered
pub use Rattle.server_answers.specs as server_answers
