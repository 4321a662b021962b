pub mod Freezes
pub mod State
pub mod Entries
pub mod Invariant
pub mod Index
pub mod Deadlines
pub mod Links
pub mod Chained
