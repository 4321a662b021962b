pub mod Commands
pub mod Said
pub mod Steps
pub mod Left
pub mod Keeping
