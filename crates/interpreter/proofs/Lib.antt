pub mod One
pub mod Stops
pub mod Rows
pub mod Budgets
