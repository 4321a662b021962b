-- What stands in a frame where a machine is described, as numbers.
use Rattle.std.proofs.Common.{◌≡◌, ℕ, zero, suc, ◌<◌, true, false, List, [], ◌∷◌, Option, Some, None, length, refl, ap, arith, ◌+◌, ◌≤◌, take, drop, sym, ◌∙◌}
use Rattle.std.specs.Prelude.{All, is_some, slice_index_or}
use Rattle.std.specs.List.{list_all}
use Rattle.std.specs.Option.{option_map, option_and_then}
use Rattle.bpf_stack_frame.specs.Frame.{all_written}
use Rattle.std.proofs.lemmas.List.{get_or-take, get_or-drop, length-take}
use Rattle.stack_domain.specs.Stack.{MarksCover as CoversFrames, AreWritten}
use Rattle.stack_domain.proofs.Loads as loads
use Rattle.bpf_semantics.specs.MachineState.{MachineState}
use Rattle.bpf_semantics.specs.Frames.{frame_bytes}
use Rattle.check_description.specs.declared.description.Description.{Description}
use Rattle.check_register_kinds.specs.declared.region.Offsets.{Offsets}
use Rattle.check_register_kinds.specs.declared.region.Region.TheVariants.{Frame}
use Rattle.check_description.specs.declared.saved.SavedRegisters.{SavedRegisters}
use Rattle.check_description.specs.Description.{DescribesWith}
use Rattle.check_register_kinds.specs.Freezes.{FreezeNumbers}
use Rattle.check_register_kinds.specs.Kinds.{LiesAt}
use Rattle.check_description.proofs.FramePlaces.{frame_found}

pub record AreFound (xs : List (Option ℕ)) : Type 0 where
  pub found : List ℕ
  pub are : all_written xs ≡ Some found
  pub each : All (λ byte. byte < 256) found

-- bytes that are all written, and are bytes
pub bytes_found : (xs : List (Option ℕ)) → list_all is_some xs ≡ true → ((i byte : ℕ) → i < length xs → slice_index_or xs i None ≡ Some byte → byte < 256) → AreFound xs
bytes_found [] all each = record { found = []; are = refl; each = λ k d lt. absurd (omega (arith, lt)) }
bytes_found (None ∷ xs) all each = absurd (let bad : false ≡ true = all in cc)
bytes_found (Some byte ∷ xs) all each =
    let rest = bytes_found xs all (λ i b lt is. each (suc i) b (omega (arith, lt)) is) in
    record {
      found = byte ∷ rest.found;
      are = ap (option_map (λ bytes. byte ∷ bytes)) rest.are;
      each = λ k d lt. each_of k d rest.found lt rest.each;
    }
  where
    each_of : (k d : ℕ) (bytes : List ℕ) → k < suc (length bytes) → All (λ b. b < 256) bytes → slice_index_or (byte ∷ bytes) k d < 256
    each_of zero d bytes lt more = each 0 byte (omega arith) refl
    each_of (suc k) d bytes lt more = more k d (omega (arith, lt))

-- what stands in a part of a list
pub in_part : {X : Type 0} (xs : List X) (n offset k : ℕ) (d : X) → k < length (take n (drop offset xs)) → slice_index_or (take n (drop offset xs)) k d ≡ slice_index_or xs (offset + k) d
in_part xs n offset k d lt =
    get_or-take n (drop offset xs) k d (omega (arith, lt, length-take n (drop offset xs))) ∙ get_or-drop offset xs k d

-- bytes of a frame that are all written
pub record AreInFrame (m : MachineState) (address bytes : ℕ) : Type 0 where
  pub found : List ℕ
  pub are : option_and_then all_written (frame_bytes 0 m.frames address bytes) ≡ Some found
  pub each : All (λ byte. byte < 256) found

pub in_frame : (numbers : FreezeNumbers) (callers : List SavedRegisters) (d : Description) (m : MachineState) (frame : ℕ) (offsets : Offsets) (address bytes : ℕ) → DescribesWith numbers callers d m → frame < length d.stack → LiesAt (Frame frame) offsets address → offsets.most + bytes ≤ 512
    → ((frames : List (List (Option ℕ))) → CoversFrames d.stack frames → AreWritten frames frame offsets.least (offsets.most + bytes)) → AreInFrame m address bytes
in_frame numbers callers d m frame offsets address bytes is live lies fits written =
    let offset : ℕ = lies.0 in
    let there : frame < length m.frames = omega (arith, live, is.frames.depth) in
    let stack : List (Option ℕ) = slice_index_or m.frames frame [] in
    let all = loads.all_written m.frames frame offset bytes (omega (arith, is.frames.whole frame there, lies.3, fits)) (λ at from to. written m.frames is.frames at (omega (arith, from, lies.2)) (omega (arith, to, lies.3))) in
    let found = bytes_found (take bytes (drop offset stack)) all (λ i byte lt same. is.bytes frame (offset + i) byte (sym (in_part stack bytes offset i None lt) ∙ same)) in
    record {
      found = found.found;
      are = ap (option_and_then all_written) (frame_found 0 m.frames frame address offset bytes there (omega (arith, lies.1)) (omega (arith, lies.3, fits))) ∙ found.are;
      each = found.each;
    }
