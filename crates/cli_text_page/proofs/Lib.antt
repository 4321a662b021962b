pub mod Harmless
mod Putting
