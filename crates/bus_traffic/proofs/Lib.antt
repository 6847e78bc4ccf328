pub mod HearingLaws
pub mod Places
mod Waits
pub mod YoungestLaws
pub mod RememberLaws
pub mod GivenLaws
pub mod TellingLaws
pub mod KeepingLaws
pub mod KnownLaws
pub mod TurnLaws
mod SettlingLaws
pub mod ForgettingLaws
