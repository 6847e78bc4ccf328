pub mod ListLaws
pub mod DumpLaws
pub mod SaysLaws
