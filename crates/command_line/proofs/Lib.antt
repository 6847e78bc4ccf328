pub mod BesideLaws
pub mod EndingLaws
pub mod StormingLaws
