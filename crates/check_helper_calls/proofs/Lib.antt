pub mod Calling
pub mod Freezes
pub mod Leaving
pub mod Fresh
pub mod Room
pub mod FirstWritten
pub mod Tracing
