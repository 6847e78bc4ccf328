pub mod PartLaws
pub mod ApartLaws
pub mod CountLaws
pub mod FullLaws
