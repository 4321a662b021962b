pub mod Code
pub mod Document
pub mod Entries
pub mod Faults
pub mod Names
pub mod Seen
pub mod Migration
