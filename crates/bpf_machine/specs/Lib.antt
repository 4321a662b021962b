pub use Rattle.bpf_semantics.specs.Reached
pub mod RegisterWords
pub mod Inside
pub mod Unchecked
pub mod Able
