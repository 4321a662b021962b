pub mod Reaching
pub mod Listed
