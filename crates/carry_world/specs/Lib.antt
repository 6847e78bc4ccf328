pub mod Internetwork
pub mod InternetworkSteps
pub mod PlainWorld
pub mod PlainSteps
pub mod Laws
pub mod Answers
-- What the layers above cite of those below.
pub use Rattle.carry_said.specs as carry_said
pub use Rattle.carry_said.specs.headline_site.headline as headline
pub use Rattle.carry_said.specs.headline_site.headline_client as headline_client
pub use Rattle.carry_said.specs.headline_bacnet as headline_bacnet
