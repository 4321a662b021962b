pub mod FromLines
pub mod Taking
pub mod Succession
pub mod Numbered
pub mod Stepwise
