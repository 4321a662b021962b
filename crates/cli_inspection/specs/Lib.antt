pub mod Configured
pub mod Shown
pub mod Trials
