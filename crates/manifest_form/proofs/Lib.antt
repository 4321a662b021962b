pub mod Lists
pub mod Codes
pub mod Lowest
pub mod Naming
pub mod Putting
pub mod LaterForm
