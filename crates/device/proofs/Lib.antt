pub mod SiteLaws
pub mod HeardLaws
pub mod ServerLaws
pub mod ServeLaws
pub mod SayLaws
pub mod SupportedLaws
pub mod OnceLaws
