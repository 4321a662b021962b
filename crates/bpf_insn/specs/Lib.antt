pub mod Reg
pub mod Program
pub mod Target
pub mod Words
pub mod Rows
pub mod Operations
