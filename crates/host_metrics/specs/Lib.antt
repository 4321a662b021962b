pub mod Notes
pub mod Counted
