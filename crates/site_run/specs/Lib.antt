pub mod Judged
pub mod Running
pub mod Simulate
-- What the layers above cite of those below.
pub use Rattle.script.specs as script
pub use Rattle.site_verdicts.specs as site_verdicts
pub use Rattle.site_history.specs.simulator as simulator
pub use Rattle.site_history.specs as site_history
