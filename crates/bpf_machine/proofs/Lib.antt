pub mod ByRows
mod Entries
pub mod FrameCalls
pub mod FramePlaces
pub mod RegisterLists
pub mod SecondOperands
pub mod Room
pub mod Same
pub mod Unchecked
pub mod Ways
