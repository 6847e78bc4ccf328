mod HearLaws
mod BindingLaws
mod HeardLaws
pub mod OnceLaws
-- What the proofs above cite of those below.
pub use Rattle.client_tsm.proofs as client_tsm
