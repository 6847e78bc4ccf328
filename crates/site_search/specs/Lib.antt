pub mod Searching
pub mod Words
-- What the layers above cite of those below.
pub use Rattle.site_storm.specs as site_storm
