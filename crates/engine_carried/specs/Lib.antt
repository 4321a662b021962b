pub mod FreezeAbove
pub mod Leaving
pub mod Left
pub mod TakenOver
