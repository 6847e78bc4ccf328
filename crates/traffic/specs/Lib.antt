pub mod Seeking
pub mod Recent
