-- What holds of freezes: their counts, who holds them, and that they go for good.
pub mod Counts
pub mod Clocks
pub mod Gone
pub mod Held
pub mod Exact
