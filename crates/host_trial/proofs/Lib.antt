pub mod Behind
pub mod Counted
pub mod Misplaced
pub mod OfTrial
pub mod Submitted
