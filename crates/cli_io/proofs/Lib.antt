pub mod Stages
pub mod Patience
pub mod Beside
