pub mod Numbered
pub mod RowTexts
pub mod Rows
pub mod Sense
pub mod Table
pub mod Told
pub mod Words
