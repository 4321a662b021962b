pub mod Answered
pub mod Asked
pub mod Decided
pub mod Faults
pub mod Ran
pub mod Steps
