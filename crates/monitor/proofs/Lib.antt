pub mod Histories
pub mod Places
pub mod Parts
pub mod Making
pub mod Publishing
pub mod Watching
pub mod InHands
