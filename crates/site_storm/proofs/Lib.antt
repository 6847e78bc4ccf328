pub mod RageLaws
pub mod WaitLaws
pub mod SumLaws
pub mod SaidLaws
pub mod CountedLaws
