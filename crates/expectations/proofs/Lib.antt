pub mod CutLaws
pub mod ErrorLaws
pub mod OutcomeLaws
pub mod ValueLaws
pub mod SaysLaws
pub mod KindLaws
pub mod QuotedLaws
