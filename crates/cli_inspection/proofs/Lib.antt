pub mod Explained
pub mod Inputs
pub mod Judged
pub mod OpenTraces
pub mod TriedOut
