pub mod Arguments
pub mod Calls
pub mod Called
pub mod Fresh
