pub mod Enough
pub mod Follows
pub mod GoesOn
pub mod Memory
