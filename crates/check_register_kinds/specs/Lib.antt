pub mod CauseText
pub mod Freezes
pub mod Kinds
pub mod Computes
pub mod Finds
pub mod Accesses
