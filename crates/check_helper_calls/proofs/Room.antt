-- There is room in a frame where a machine is described.
use Rattle.std.proofs.Common.{◌≡◌, ℕ, ◌+◌, ◌<◌, ◌≤◌, true, List, length, ap, arith}
use Rattle.std.specs.Prelude.{is_some}
use Rattle.bpf_semantics.specs.MachineState.{MachineState}
use Rattle.bpf_semantics.specs.Frames.{has_room}
use Rattle.check_description.specs.declared.description.Description.{Description}
use Rattle.check_register_kinds.specs.declared.region.Offsets.{Offsets}
use Rattle.check_register_kinds.specs.declared.region.Region.TheVariants.{Frame}
use Rattle.check_description.specs.declared.saved.SavedRegisters.{SavedRegisters}
use Rattle.check_description.specs.Description.{DescribesWith}
use Rattle.check_register_kinds.specs.Freezes.{FreezeNumbers}
use Rattle.check_register_kinds.specs.Kinds.{LiesAt}
use Rattle.check_description.proofs.FramePlaces.{frame_found}

pub frame_has_room : (numbers : FreezeNumbers) (callers : List SavedRegisters) (d : Description) (m : MachineState) (frame : ℕ) (offsets : Offsets) (address bytes : ℕ) → DescribesWith numbers callers d m → frame < length d.stack → LiesAt (Frame frame) offsets address → offsets.most + bytes ≤ 512
    → has_room 0 m.frames address bytes ≡ true
frame_has_room numbers callers d m frame offsets address bytes is live lies fits =
    ap is_some (frame_found 0 m.frames frame address lies.0 bytes (omega (arith, live, is.frames.depth)) (omega (arith, lies.1)) (omega (arith, lies.3, fits)))
