pub mod Safe
pub mod Keeping
pub mod Refines
pub mod Laws
-- What the layers above cite of those below.
pub use Rattle.headline_bacnet.specs as headline_bacnet
pub use Rattle.server_tsm.specs as server_tsm
pub use Rattle.headline_bacnet.specs.server_answers as server_answers
pub use Rattle.server_tsm.specs.remembered as remembered
