pub mod LinkLaws
pub mod RestLaws
