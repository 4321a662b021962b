pub mod Keeping
pub mod Words
pub mod Saying
pub mod Whole
pub mod Completing
