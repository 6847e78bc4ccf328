pub mod HearLaws
pub mod SayLaws
pub mod SiteLaws
pub mod AnswerLaws
pub mod RespondLaws
pub mod ExplainLaws
