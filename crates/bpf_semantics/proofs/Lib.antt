pub mod MemoryFound
mod MemoryRows
pub mod Progress
pub mod Rows
pub mod WrittenBytes
