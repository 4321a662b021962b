pub mod Contexts
pub mod Worked
pub mod Codes
