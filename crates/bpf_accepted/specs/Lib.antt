pub use Rattle.bpf_semantics.specs.Reached
pub mod Verdict
