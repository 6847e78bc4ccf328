-- What the layers above cite of those below.
pub use Rattle.site_live.specs as site_live
pub use Rattle.site_steps.specs.site_run as site_run
