pub mod Setups
pub mod Programs
pub mod Firsts
