pub mod Calls
pub mod Recorded
pub mod Serving
pub mod Settling
