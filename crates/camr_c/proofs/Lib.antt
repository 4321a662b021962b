pub mod Refusing
pub mod Reporting
pub mod Steps
pub mod Values
