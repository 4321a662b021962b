pub mod Slots
pub mod Same
pub mod SameWords
pub mod WordRows
pub mod OperandRows
pub mod RowLists
pub mod FoundRows
