pub mod Counted
pub mod Recoveries
pub mod Verdicts
