pub mod Counting
pub mod Frozen
