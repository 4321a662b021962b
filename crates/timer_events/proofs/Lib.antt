pub mod First
pub mod Worked
pub mod Expiring
