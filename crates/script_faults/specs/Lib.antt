pub mod Mended
pub mod Told
