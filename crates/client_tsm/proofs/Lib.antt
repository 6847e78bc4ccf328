mod Names
mod Meaning
mod Wakes
pub mod Telling
mod Ending
mod Places
mod Apart
mod Committing
mod Joining
mod Quiet
mod Dues
mod Silent
