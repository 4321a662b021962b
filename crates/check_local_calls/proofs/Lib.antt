pub mod LocalCalls
pub mod Spills
