pub mod HearLaws
pub mod KeepLaws
pub mod PassLaws
pub mod Ports
pub mod RouteLaws
