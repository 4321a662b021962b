-- What becomes of all registers at once, and where a freeze is held no more.
use Rattle.std.specs.Prelude.{ℕ, ◌<◌, List, [], slice_index_or, ◌≡◌}
use Rattle.check_register_kinds.specs.declared.kind.Kind.{Kind}
use Rattle.check_register_kinds.specs.declared.kind.Kind.TheVariants.{Unwritten, Freeze}
use Rattle.bpf_insn.specs.declared.reg.Reg.{Reg}
use Rattle.check_description.specs.declared.description.Description.{Description}
use Rattle.check_register_kinds.specs.declared.freeze_name.FreezeName.{FreezeName}
use Rattle.check_description.specs.Description.{kind_at}
use Rattle.check_register_kinds.specs.Freezes.{without}

abbrev pub at : List Kind → ℕ → Kind
at kinds i = slice_index_or kinds i Unwritten

-- that holds of each of the registers before and after
abbrev pub EachBecomes : (Kind → Kind → Type 0) → List Kind → List Kind → Type 0
EachBecomes P before after = (i : ℕ) → i < 11 → P (at before i) (at after i)

abbrev pub IsFreeze : Kind → Type 0
IsFreeze kind = (name : FreezeName) × (kind ≡ Freeze name)

-- a freeze is held no more, and its copies are of that kind; all else is as before
pub record LeavesGivenUp (name : FreezeName) (copy : Kind) (d there : Description) : Type 0 where
  pub copies : (reg : Reg) → kind_at d reg ≡ Freeze name → kind_at there reg ≡ copy
  pub others : (reg : Reg) → (kind_at d reg ≡ Freeze name → ⊥) → kind_at there reg ≡ kind_at d reg
  pub stack : there.stack ≡ d.stack
  pub unspilled : d.spills ≡ [] → there.spills ≡ []
  pub held : there.held ≡ without d.held name
  pub disposal : there.disposed ≡ d.disposed
