pub mod Port
pub mod Steps
pub mod FrameLaws
pub mod Laws
pub mod CarryLaws
