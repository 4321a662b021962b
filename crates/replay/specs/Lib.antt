pub mod Replaying
pub mod Continued
pub mod OneVerdict
pub mod OwnTrace
