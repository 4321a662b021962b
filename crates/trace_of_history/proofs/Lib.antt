pub mod Somes
pub mod Calls
pub mod Frames
pub mod Stops
pub mod Advances
pub mod Versions
pub mod Each
