pub mod ChunkedState
pub mod Chunks
pub mod Invariant
