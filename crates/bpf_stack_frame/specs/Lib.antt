pub mod ByteSet
pub mod SetWords
pub mod Frame
pub mod FrameBytes
