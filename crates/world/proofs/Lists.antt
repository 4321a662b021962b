-- Lists whose elements bear numbers: what is found in them, counted, and left by a change.
pub mod Found
pub mod Rising
pub mod Placed
pub mod Each
pub mod Entries
pub mod HeldBy
