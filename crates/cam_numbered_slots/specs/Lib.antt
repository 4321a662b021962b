pub mod NumberedState
pub mod Invariant
pub mod Lends
