pub mod ErrorNames
