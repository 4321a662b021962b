pub mod OneByOne
pub mod Configured
pub mod Short
pub mod Migrating
