pub mod Differences
pub mod Bits
pub mod Sets
pub mod Words
pub mod FrameLists
pub mod LiveFrames
pub mod Worked
