pub mod QuickResults
pub mod SignedWords
pub mod Worked
