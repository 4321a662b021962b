pub mod AtEntry
pub mod Meeting
pub mod Ways
