pub mod CountLaws
pub mod StepLaws
pub mod PrintLaws
pub mod LiveLaws
pub mod LapLaws
pub mod HearLaws
pub mod ExpectLaws
