pub mod NotWire
pub mod LedRules
pub mod SeekingLaws
pub mod SenderLaws
pub mod StrayLaws
pub mod TurnLaws
pub mod HearingLaws
pub mod SendingLaws
