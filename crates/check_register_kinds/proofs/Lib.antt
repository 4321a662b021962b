pub mod Freezes
pub mod Shifts
pub mod Sums
pub mod Moves
pub mod Accesses
