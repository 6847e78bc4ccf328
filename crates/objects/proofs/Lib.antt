pub mod RequestLaws
pub mod ShapeLaws
pub mod ChangeLaws
pub mod OneThingLaws
pub mod ReadBackLaws
pub mod OpeningLaws
pub mod FailureLaws
pub mod WriteLaws
