pub mod Stations
pub mod Bodies
pub mod Speaking
pub mod Protocol
pub mod Refined
pub mod Network
pub mod Laws
-- What the layers above cite of those below.
pub use Rattle.server_answers.specs as server_answers
pub use Rattle.services.specs as services
