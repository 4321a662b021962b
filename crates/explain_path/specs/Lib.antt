pub mod Passes
pub mod Remaining
pub mod Logs
