pub mod Words
pub mod QuickResults
