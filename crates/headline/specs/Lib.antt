pub mod Protocol
pub mod Stations
pub mod Happenings
pub mod Honest
pub mod Promised
pub mod Records
