pub mod InOrder
pub mod Settled
