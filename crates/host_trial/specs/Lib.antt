pub mod Recording
pub mod Tried
pub mod Resting
pub mod Submitted
pub mod Misplaced
pub mod Hosted
