pub mod HearLaws
pub mod SayLaws
pub mod OnceLaws
pub mod BringLaws
pub mod InsideLaws
