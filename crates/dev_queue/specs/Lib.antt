pub mod Waiting
pub mod Heap
pub mod Invariant
pub mod State
pub mod Faults
pub mod FaultText
