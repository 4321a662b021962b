pub mod HistoryState
pub mod Kept
