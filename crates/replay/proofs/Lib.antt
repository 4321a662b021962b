pub mod OneStretch
pub mod Followed
pub mod Replayed
pub mod OneVerdict
