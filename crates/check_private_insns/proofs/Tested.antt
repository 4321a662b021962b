-- What becomes of a described machine where a freeze is found to be 0 or not.
use Rattle.std.proofs.Common.{◌≡◌, ℕ, ◌<◌, List, Some, None, subst}
use Rattle.bpf_semantics.specs.MachineState.{MachineState}
use Rattle.bpf_semantics.specs.Step.{held_without}
use Rattle.check_description.specs.declared.description.Description.{Description}
use Rattle.check_register_kinds.specs.declared.freeze_name.FreezeName.{FreezeName}
use Rattle.check_description.specs.declared.saved.SavedRegisters.{SavedRegisters}
use Rattle.check_description.specs.Description.{Describes, DescribesWith}
use Rattle.check_register_kinds.specs.Freezes.{FreezeNumbers, renumbered, with_sure}
use Rattle.check_register_kinds.proofs.Freezes.{held_sure, without_zero}

pub sure_described : (numbers : FreezeNumbers) (callers : List SavedRegisters) (d : Description) (m : MachineState) (name : FreezeName) (number : ℕ) → DescribesWith numbers callers d m → numbers name ≡ Some number → 0 < number
    → DescribesWith numbers callers (record d { held = with_sure d.held name }) m
sure_described numbers callers d m name number is its some = record {
  registers = is.registers;
  count = is.count;
  frames = is.frames;
  standing = is.standing;
  loaded = is.loaded;
  spills = is.spills;
  bytes = is.bytes;
  context = is.context;
  held = held_sure numbers d.held m.held name number is.held its some;
  disposal = is.disposal;
  calls = is.calls;
  depth = is.depth;
}

-- a freeze that is 0 is none
pub zero_described : (numbers : FreezeNumbers) (callers : List SavedRegisters) (d there : Description) (m : MachineState) (name : FreezeName) → DescribesWith numbers callers d m → DescribesWith (renumbered numbers name None) callers there (record m { held = held_without m.held 0 }) → Describes callers there m
zero_described numbers callers d there m name is after =
    (renumbered numbers name None, subst (λ (l : List ℕ). DescribesWith (renumbered numbers name None) callers there (record m { held = l })) (without_zero numbers d.held m.held is.held) after)
