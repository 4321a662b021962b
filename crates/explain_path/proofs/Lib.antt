pub mod Paths
pub mod Remaining
