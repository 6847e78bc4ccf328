pub mod JudgedLaws
