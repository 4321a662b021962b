pub mod Records
pub mod Tokens
pub mod Kept
