pub mod Numbered
pub mod Slots
pub mod Kept
pub mod Index
pub mod Chained
pub mod Links
pub mod Walk
pub mod Worked
