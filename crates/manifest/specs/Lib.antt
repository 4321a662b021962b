pub mod FaultText
pub mod Meaning
pub mod Seen
pub mod Migration
