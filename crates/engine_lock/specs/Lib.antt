pub mod Sharing
pub mod Publishing
pub mod Driving
