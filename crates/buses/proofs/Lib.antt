pub mod Places
pub mod RestartLaws
pub mod FindingLaws
pub mod KnownLaws
pub mod HeardLaws
pub mod ForgetLaws
