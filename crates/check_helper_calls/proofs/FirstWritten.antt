-- Bytes that are written from the address on that a register holds.
use Rattle.std.proofs.Common.{◌≡◌, ℕ, Some, sym, subst, ◌∙◌}
use Rattle.bpf_insn.specs.declared.reg.Reg.{Reg}
use Rattle.bpf_semantics.specs.MachineState.{register}
use Rattle.check_description.specs.declared.description.Description.{Description}
use Rattle.check_register_kinds.specs.declared.kind.Kind.{Kind}
use Rattle.check_register_kinds.specs.declared.kind.Kind.TheVariants.{Address}
use Rattle.check_register_kinds.specs.declared.region.Offsets.{Offsets}
use Rattle.check_register_kinds.specs.declared.region.Region.TheVariants.{Frame}
use Rattle.check_description.specs.Description.{kind_at}
use Rattle.check_register_kinds.specs.Kinds.{IsAt, HoldsKind, LiesAt}
use Rattle.check_description.specs.Memory.{AreKnown, LeavesMarked, Writes}
use Rattle.check_helper_calls.specs.Calls.{WritesFrom}
use Rattle.check_description.proofs.FramePlaces.{frame_is}

same_number : (a b : ℕ) → Some a ≡ Some b → a ≡ b
same_number a b e = cc

pub writes_from : (d there : Description) (reg : Reg) (frame : ℕ) (offsets : Offsets) (count : ℕ) → kind_at d reg ≡ Address (Frame frame) offsets → Writes d frame offsets count there → WritesFrom reg count d there
writes_from d there reg frame offsets count in_frame writes numbers callers m address bytes is at size each =
    let holds = subst (λ (kind : Kind). HoldsKind numbers kind (register m reg)) in_frame (is.registers reg) in
    writes numbers callers m address bytes is (subst (LiesAt (Frame frame) offsets) (same_number holds.0 address (sym holds.1 ∙ at)) holds.2) size each

pub known_from : (d there : Description) (reg : Reg) (frame : ℕ) (offsets : Offsets) (count : ℕ) → kind_at d reg ≡ Address (Frame frame) offsets
    → ((from : ℕ) → offsets ≡ record { least = from; most = from } → LeavesMarked d frame from count there) → (k at : ℕ) → IsAt (Frame k) at (kind_at d reg) → AreKnown there k at count
known_from d there reg frame offsets count in_frame marks k at is =
    let same : Address (Frame frame) offsets ≡ Address (Frame k) (record { least = at; most = at }) = sym in_frame ∙ is in
    let frames : Frame frame ≡ Frame k = cc in
    let offset : offsets ≡ record { least = at; most = at } = cc in
    subst (λ (j : ℕ). AreKnown there j at count) (frame_is frame k frames) (marks at offset).written
