pub mod Folders
pub mod Replacing
