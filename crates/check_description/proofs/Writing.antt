-- What a store leaves where a machine is described.
use Rattle.std.proofs.Common.{◌≡◌, ℕ, ◌+◌, ◌-◌, ◌<◌, ◌≤◌, Bool, List, [], ◌++◌, Option, Some, None, length, map, take, drop, ap, sym, subst, ◌∙◌, arith, inl, inr}
use Rattle.std.specs.Prelude.{All, slice_index_or}
use Rattle.std.specs.Option.{option_map}
use Rattle.std.proofs.Math.ListN.{length-set}
use Rattle.std.proofs.lemmas.Bool.{cases_eq, cases_lt}
use Rattle.std.proofs.lemmas.List.{get_or_append_left, get_or-append_right, get_or-map, get_or-set_same, get_or-set_other, length-append, length-map, length-take-le}
use Rattle.bpf_stack_frame.specs.Frame.{written_at}
use Rattle.stack_domain.specs.Stack.{MarksCover as CoversFrames}
use Rattle.stack_domain.specs.Numbers.{AreStanding}
use Rattle.stack_domain.specs.declared.numbers.StackNumber.{StackNumber}
use Rattle.stack_domain.specs.Stores.{stored}
use Rattle.stack_domain.proofs.Stores.{written_at_outside}
use Rattle.bpf_semantics.specs.MachineState.{MachineState}
use Rattle.bpf_semantics.specs.Frames.{frame_start}
use Rattle.check_description.specs.declared.description.Description.{Description}
use Rattle.check_description.specs.declared.saved.SavedRegisters.{SavedRegisters}
use Rattle.check_description.specs.Description.{DescribesWith}
use Rattle.check_register_kinds.specs.Freezes.{FreezeNumbers}
use Rattle.check_description.specs.Memory.{AreWritten}
use Rattle.check_description.specs.Spills.{AreSpilled}
use Rattle.check_description.specs.declared.spill.Spill.{Spill}
use Rattle.check_description.proofs.FramePlaces.{frame_stored}

-- what is in a stack byte is one
abbrev pub HoldsBytes : List (Option ℕ) → Type 0
HoldsBytes frame = (at byte : ℕ) → slice_index_or frame at None ≡ Some byte → byte < 256

some_same : (a b : ℕ) → Some a ≡ Some b → a ≡ b
some_same a b e = cc

module _ (frame : List (Option ℕ)) (offset : ℕ) (bytes : List ℕ) (inside : offset + length bytes ≤ length frame) where
  front : length (take offset frame) ≡ offset
  front = length-take-le offset frame (omega (arith, inside))

  middle : length (take offset frame ++ map Some bytes) ≡ offset + length bytes
  middle = omega (arith, length-append (take offset frame) (map Some bytes), front, length-map bytes Some)

  -- a byte that was stored
  pub stored_byte : (at : ℕ) → offset ≤ at → at < offset + length bytes → slice_index_or (written_at offset bytes frame) at None ≡ Some (slice_index_or bytes (at - offset) 0)
  unfolding written_at
  stored_byte at from to =
      get_or_append_left (take offset frame ++ map Some bytes) (drop (offset + length bytes) frame) None at (omega (arith, middle, to))
      ∙ (get_or-append_right (take offset frame) (map Some bytes) offset at None front from
      ∙ get_or-map Some bytes (at - offset) 0 None (omega (arith, from, to)))

  written_bytes : All (λ byte. byte < 256) bytes → HoldsBytes frame → HoldsBytes (written_at offset bytes frame)
  written_bytes each was at byte is = elim (cases_lt at offset) [
    | inl below ↦ was at byte (sym (written_at_outside frame offset bytes inside at (inl below)) ∙ is)
    | inr from ↦ elim (cases_lt at (offset + length bytes)) [
      | inl to ↦ subst (λ (b : ℕ). b < 256) (some_same _ byte (sym (stored_byte at from to) ∙ is)) (each (at - offset) 0 (omega (arith, from, to)))
      | inr above ↦ was at byte (sym (written_at_outside frame offset bytes inside at (inr above)) ∙ is)
    ]
  ]

-- the bytes of all frames
bytes_kept : (frames : List (List (Option ℕ))) (k offset : ℕ) (bytes : List ℕ) → k < length frames → offset + length bytes ≤ length (slice_index_or frames k []) → All (λ byte. byte < 256) bytes
    → ((j : ℕ) → HoldsBytes (slice_index_or frames j [])) → (j : ℕ) → HoldsBytes (slice_index_or (stored frames k offset bytes) j [])
bytes_kept frames k offset bytes live inside each was j = elim (cases_eq j k) [
  | inr apart ↦ subst HoldsBytes (sym (get_or-set_other frames k j (written_at offset bytes (slice_index_or frames k [])) [] apart)) (was j)
  | inl same ↦
      subst (λ (i : ℕ). HoldsBytes (slice_index_or (stored frames k offset bytes) i [])) (sym same)
      (subst HoldsBytes (sym (get_or-set_same frames k (written_at offset bytes (slice_index_or frames k [])) [] live))
      (written_bytes (slice_index_or frames k []) offset bytes inside each (was k)))
]

-- bytes are written in a live frame, and the stack is known to be as it is then
pub are_written : (numbers : FreezeNumbers) (callers : List SavedRegisters) (d : Description) (m : MachineState) (stack : List (List Bool)) (spills : List Spill) (standing : List (Option StackNumber)) (frame offset address : ℕ) (bytes : List ℕ) → DescribesWith numbers callers d m → frame < length m.frames
    → address ≡ frame_start frame + offset → offset + length bytes ≤ 512 → All (λ byte. byte < 256) bytes → CoversFrames stack (stored m.frames frame offset bytes) → AreSpilled numbers spills (stored m.frames frame offset bytes)
    → AreStanding (stored m.frames frame offset bytes) standing → AreWritten numbers callers m address bytes (record d { stack = stack; spills = spills; numbers = standing; loaded = None })
are_written numbers callers d m stack spills standing frame offset address bytes is live at fits each covers spilled stand = record {
  with_bytes = record m { frames = stored m.frames frame offset bytes };
  does = ap (option_map (λ frames. record m { frames = frames })) (frame_stored 0 m.frames frame address offset bytes live (omega (arith, at)) fits);
  describes = record {
    registers = is.registers;
    count = is.count;
    frames = covers;
    spills = spilled;
    standing = stand;
    loaded = tt;
    bytes = bytes_kept m.frames frame offset bytes live (omega (arith, is.frames.whole frame live, fits)) each is.bytes;
    context = is.context;
    held = is.held;
    disposal = is.disposal;
    calls = is.calls;
    depth = length-set m.frames frame (written_at offset bytes (slice_index_or m.frames frame [])) ∙ is.depth;
  };
}
