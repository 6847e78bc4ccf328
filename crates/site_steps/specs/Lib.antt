-- What the layers above cite of those below.
pub use Rattle.site_run.specs as site_run
