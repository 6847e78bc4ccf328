pub mod Safe
pub mod Told
pub mod Heard
pub mod Kept
pub mod Laws
-- What the layers above cite of those below.
pub use Rattle.headline_bacnet.specs as headline_bacnet
pub use Rattle.client.specs as client
pub use Rattle.headline_bacnet.specs.services as services
pub use Rattle.headline_bacnet.specs.server_answers as server_answers
pub use Rattle.client.specs.client_tsm as client_tsm
pub use Rattle.segments.specs as segments
