-- What becomes of a described machine where a freeze is held no more.
use Rattle.std.proofs.Common.{◌≡◌, ℕ, List, Some, None}
use Rattle.bpf_insn.specs.Reg.{number_of}
use Rattle.bpf_semantics.specs.MachineState.{MachineState}
use Rattle.bpf_semantics.specs.Step.{held_without}
use Rattle.scalar_domain.specs.declared.scalars.Scalar.{Scalar}
use Rattle.scalar_domain.specs.Scalar.{Has}
use Rattle.check_description.specs.declared.description.Description.{Description}
use Rattle.check_register_kinds.specs.declared.freeze_name.FreezeName.{FreezeName}
use Rattle.check_register_kinds.specs.declared.kind.Kind.{Kind}
use Rattle.check_description.specs.declared.saved.SavedRegisters.{SavedRegisters}
use Rattle.check_description.specs.Changes.{EachBecomes}
use Rattle.check_description.specs.Description.{DescribesWith}
use Rattle.check_description.specs.Spills.{at_place, spill_without}
use Rattle.check_description.specs.declared.spill.Spill.{Spill}
use Rattle.check_register_kinds.specs.Freezes.{FreezeNumbers, renumbered, without}
use Rattle.check_register_kinds.specs.Kinds.{GivesUpKind}
use Rattle.check_register_kinds.proofs.Freezes.{held_given_up}
use Rattle.check_description.proofs.OpenCalls.{open_given_up}
use Rattle.check_description.proofs.RegisterPlaces.{number_below}
use Rattle.check_description.proofs.Spilled.{given_spilled}

pub given_up_described : (numbers : FreezeNumbers) (callers : List SavedRegisters) (d : Description) (registers : List Kind) (spills : List Spill) (m : MachineState) (name : FreezeName) (number : ℕ) (copies : Scalar) → DescribesWith numbers callers d m → numbers name ≡ Some number → Has copies number
    → EachBecomes (GivesUpKind name copies) d.registers registers → ((place : ℕ) → at_place spills place ≡ spill_without name (at_place d.spills place))
    → DescribesWith (renumbered numbers name None) callers (record d { registers = registers; spills = spills; held = without d.held name }) (record m { held = held_without m.held number })
given_up_described numbers callers d registers spills m name number copies is its has each spilled = record {
  registers = λ reg. (each (number_of reg) (number_below reg)).kept numbers number _ its has (is.registers reg);
  count = is.count;
  frames = is.frames;
  standing = is.standing;
  loaded = is.loaded;
  spills = given_spilled numbers name d.spills spills m.frames spilled is.spills;
  bytes = is.bytes;
  context = is.context;
  held = held_given_up numbers d.held m.held name number is.held its;
  disposal = is.disposal;
  calls = open_given_up numbers name callers m.open_calls is.calls;
  depth = is.depth;
}
