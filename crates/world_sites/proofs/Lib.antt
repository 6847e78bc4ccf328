pub mod ListLaws
pub mod BoolLaws
pub mod SiteLaws
pub mod FreshLaws
pub mod AgreeLaws
pub mod DeviceLaws
pub mod OpeningLaws
pub mod MakingLaws
pub mod FitLaws
pub mod StandLaws
pub mod PortLaws
pub mod FindLaws
pub mod PlaceLaws
pub mod NodePlaceLaws
pub mod DirectoryLaws
pub mod StayLaws
pub mod ListeningLaws
-- What the proofs above cite of those below.
pub use Rattle.node_laws.proofs.carry_said as carry_said
