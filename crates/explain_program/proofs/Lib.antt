pub mod Listed
pub mod Search
