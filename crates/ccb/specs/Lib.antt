pub mod Status
pub mod Flags
pub mod Completion
pub mod Ccb
pub mod Context
pub mod Rising
pub mod Places
pub mod CallRefusalText
