pub mod AskedLines
pub mod AskedRows
pub mod Explained
pub mod FailureSo
pub mod Planned
pub mod Shown
pub mod Spelled
pub mod WordsOf
pub mod Unread
mod Once
pub mod Seeds
