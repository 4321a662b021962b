pub use Rattle.bpf_semantics.specs.Reached
pub use Rattle.bpf_accepted.specs.Verdict
pub mod Segments
pub mod Stretches
pub mod Laws
