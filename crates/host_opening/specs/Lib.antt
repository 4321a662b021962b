pub mod Opened
pub mod Recovered
