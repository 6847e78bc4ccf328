pub mod HearLaws
pub mod IssueLaws
