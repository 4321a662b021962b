pub mod Telling
pub mod Interrupted
pub mod Served
pub mod Rejected
pub mod Starting
pub mod Accepted
mod Counted
pub mod Alone
pub mod Decided
pub mod Going
