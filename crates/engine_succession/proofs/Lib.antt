pub mod Taking
pub mod Succeeding
pub mod Refused
pub mod OneByOne
