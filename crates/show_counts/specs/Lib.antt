pub mod Told
pub mod Columns
