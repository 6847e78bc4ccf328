pub mod Changes
pub mod Foreign
pub mod Things
pub mod Dues
