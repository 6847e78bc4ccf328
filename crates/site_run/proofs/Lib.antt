pub mod RunLaws
pub mod JudgeLaws
pub mod SimulateLaws
