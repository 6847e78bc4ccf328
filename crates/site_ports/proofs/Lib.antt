pub mod PortSteps
pub mod Drafts
pub mod Keeping
pub mod Dues
-- What the proofs above cite of those below.
pub use Rattle.link_site.proofs as link_site
