pub use Rattle.bpf_words.specs.Words
pub mod Scalar
pub mod Halves
