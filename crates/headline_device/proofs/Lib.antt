pub mod Doing
pub mod Itself
-- What the proofs above cite of those below.
pub use Rattle.headline_server.proofs as headline_server
