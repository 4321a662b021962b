pub mod Begun
pub mod Lines
