pub mod Advances
pub mod AtOnce
pub mod Made
pub mod Parking
pub mod Recording
pub mod Turns
