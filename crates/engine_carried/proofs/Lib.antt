pub mod Resting
pub mod Leaving
pub mod Alike
pub mod Beginning
pub mod Free
pub mod Above
pub mod Adding
