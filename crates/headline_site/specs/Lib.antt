pub mod AllStations
pub mod Fair
pub mod Placed
pub mod Laws
-- What the layers above cite of those below.
pub use Rattle.headline.specs as headline
pub use Rattle.headline_client.specs.headline_bacnet as headline_bacnet
pub use Rattle.headline_client.specs as headline_client
pub use Rattle.headline_device.specs as headline_device
pub use Rattle.headline_device.specs.headline_server as headline_server
pub use Rattle.headline_client.specs.client as client
pub use Rattle.headline_device.specs.device as device
pub use Rattle.headline_client.specs.server_answers as server_answers
pub use Rattle.headline_device.specs.server_tsm as server_tsm
pub use Rattle.headline_client.specs.client_tsm as client_tsm
