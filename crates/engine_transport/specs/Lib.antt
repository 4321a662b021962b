pub mod Listed
pub mod Queues
pub mod Refusals
pub mod Invariant
pub mod Freezing
pub mod Carrying
