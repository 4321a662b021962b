pub use Rattle.call_shape.specs.StaticPath
pub mod Length
pub mod Longest
