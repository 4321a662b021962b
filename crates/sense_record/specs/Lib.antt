pub mod Sense
