pub mod Numbers
pub mod OneByOne
pub mod Parts
pub mod Spelled
