pub mod KeptLaws
pub mod DeedLaws
pub mod HistoryLaws
