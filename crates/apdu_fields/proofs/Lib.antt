pub mod Parameters
pub mod ClassesAndCodes
