pub mod Changes
pub mod Description
pub mod Memory
pub mod OpenCalls
pub mod Spills
