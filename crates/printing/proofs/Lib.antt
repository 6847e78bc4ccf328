pub mod Printing
pub mod Utf8Laws
