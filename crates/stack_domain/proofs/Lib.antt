pub mod Covered
pub mod Forgetting
pub mod Loads
pub mod Others
pub mod Places
pub mod Standing
pub mod Stores
pub mod Worked
