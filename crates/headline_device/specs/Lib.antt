pub mod Devices
-- What the layers above cite of those below.
pub use Rattle.headline_server.specs as headline_server
pub use Rattle.device.specs as device
pub use Rattle.headline_server.specs.remembered as remembered
pub use Rattle.headline_server.specs.server_tsm as server_tsm
