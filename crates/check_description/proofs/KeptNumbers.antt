-- A number that was stored is kept, and one that is kept is what is read.
use Rattle.std.proofs.Common.{◌≡◌, ℕ, ◌+◌, ◌^◌, ◌<◌, ◌≤◌, List, [], Option, None, Some, IfSome, length, take, drop, refl, ap, sym, subst, ◌∙◌, arith}
use Rattle.std.specs.Prelude.{slice_index_or}
use Rattle.std.specs.Option.{option_map, option_and_then}
use Rattle.byteorder.specs.Endian.{little_bytes, little_number}
use Rattle.bpf_stack_frame.specs.Frame.{all_written}
use Rattle.bpf_semantics.specs.Frames.{frame_start}
use Rattle.bpf_insn.specs.declared.reg.Reg.{Reg}
use Rattle.bpf_semantics.specs.MachineState.{MachineState, register}
use Rattle.bpf_semantics.specs.Memory.{with_memory}
use Rattle.bpf_semantics.proofs.MemoryFound.{bytes_length}
use Rattle.scalar_domain.specs.declared.scalars.Scalar.{Scalar}
use Rattle.scalar_domain.specs.Scalar.{Has}
use Rattle.stack_domain.specs.declared.numbers.NumberPlace.{NumberPlace}
use Rattle.stack_domain.specs.declared.numbers.StackNumber.{StackNumber}
use Rattle.stack_domain.specs.Numbers.{AreStanding, StandsAt}
use Rattle.stack_domain.specs.Stores.{stored}
use Rattle.stack_domain.proofs.Standing.{stands_stored}
use Rattle.check_register_kinds.specs.declared.region.Offsets.{Offsets}
use Rattle.check_register_kinds.specs.Freezes.{FreezeNumbers}
use Rattle.check_description.specs.declared.description.Description.{Description}
use Rattle.check_description.specs.declared.saved.SavedRegisters.{SavedRegisters}
use Rattle.check_description.specs.Description.{DescribesWith, HoldsLoaded, IsStillLoaded}
use Rattle.check_description.specs.Memory.{HasThere, StoresNumber, Writes}
use Rattle.check_description.proofs.ByteNumbers.{bytes_below}
use Rattle.check_description.proofs.FramePlaces.{frame_found, frame_stored}

some_same : {X : Type 0} (x y : X) → Some x ≡ Some y → x ≡ y
some_same x y e = cc

-- the same but for which numbers are kept
pub renumbered_stack : (numbers : FreezeNumbers) (callers : List SavedRegisters) (d : Description) (m : MachineState) (standing : List (Option StackNumber)) → DescribesWith numbers callers d m → AreStanding m.frames standing → DescribesWith numbers callers (record d { numbers = standing }) m
renumbered_stack numbers callers d m standing is stand = record {
  registers = is.registers;
  count = is.count;
  frames = is.frames;
  spills = is.spills;
  standing = stand;
  loaded = is.loaded;
  bytes = is.bytes;
  context = is.context;
  held = is.held;
  disposal = is.disposal;
  calls = is.calls;
  depth = is.depth;
}

-- the bytes of a number are bytes
pub number_stored : (d there : Description) (frame count : ℕ) (offsets : Offsets) (number : Scalar) → Writes d frame offsets count there → StoresNumber d frame offsets count number there
number_stored d there frame count offsets number writes = λ numbers callers m address word is lies has.
    writes numbers callers m address (little_bytes count word) is lies (bytes_length 0 count word) (bytes_below 0 count word)

-- it is kept
pub number_kept : (d written : Description) (standing : List (Option StackNumber)) (place : NumberPlace) (offsets : Offsets) (number : Scalar) → place.frame < length d.stack → offsets.least ≡ offsets.most → place.offset ≡ offsets.least → offsets.most + place.bytes ≤ 512
    → Writes d place.frame offsets place.bytes written → ((word : ℕ) → Has number word → word < 256 ^ place.bytes) → ((frames : List (List (Option ℕ))) → AreStanding frames written.numbers → StandsAt frames place number → AreStanding frames standing)
    → StoresNumber d place.frame offsets place.bytes number (record written { numbers = standing })
number_kept d written standing place offsets number live one at inside writes room keeps = λ numbers callers m address word is lies has.
    let bytes : List ℕ = little_bytes place.bytes word in
    let long : length bytes ≡ place.bytes = bytes_length 0 place.bytes word in
    let there : place.frame < length m.frames = omega (arith, live, is.frames.depth) in
    let whole : length (slice_index_or m.frames place.frame []) ≡ 512 = is.frames.whole place.frame there in
    let done = writes numbers callers m address bytes is lies long (bytes_below 0 place.bytes word) in
    let stores : with_memory m address bytes ≡ Some (record m { frames = stored m.frames place.frame place.offset bytes }) =
    ap (option_map (λ frames. record m { frames = frames })) (frame_stored 0 m.frames place.frame address place.offset bytes there (omega (arith, lies.1, lies.2, lies.3, one, at)) (omega (arith, long, inside, one, at))) in
    let same : done.with_bytes ≡ record m { frames = stored m.frames place.frame place.offset bytes } = some_same _ _ (sym done.does ∙ stores) in
    let frames : done.with_bytes.frames ≡ stored m.frames place.frame place.offset bytes = ap (λ (n : MachineState). n.frames) same in
    let stands : StandsAt done.with_bytes.frames place number = subst (λ (f : List (List (Option ℕ))). StandsAt f place number) (sym frames) (stands_stored m.frames place number word there (omega (arith, whole, inside, one, at)) (room word has) has) in
    record {
      with_bytes = done.with_bytes;
      does = done.does;
      describes = renumbered_stack numbers callers written done.with_bytes standing done.describes (keeps done.with_bytes.frames done.describes.standing stands);
    }

-- what is found of the register that was loaded last is found of the place from which it was loaded
pub loaded_narrowed : (numbers : FreezeNumbers) (callers : List SavedRegisters) (d : Description) (m : MachineState) (standing : List (Option StackNumber)) (place : NumberPlace) (reg : Reg) (number : Scalar) (word : ℕ) → DescribesWith numbers callers d m
    → d.loaded ≡ Some (record { reg = reg; place = place }) → register m reg ≡ Some word → Has number word → ((frames : List (List (Option ℕ))) → AreStanding frames d.numbers → StandsAt frames place number → AreStanding frames standing)
    → DescribesWith numbers callers (record d { numbers = standing }) m
loaded_narrowed numbers callers d m standing place reg number word is last same has keeps =
    let holds : HoldsLoaded m.registers m.frames (record { reg = reg; place = place }) = subst (IsStillLoaded m.registers m.frames) last is.loaded in
    let stands : StandsAt m.frames place number = record { live = holds.live; word = word; is = holds.stands ∙ (sym holds.holds ∙ same); has = has } in
    renumbered_stack numbers callers d m standing is (keeps m.frames is.standing stands)

-- and what is kept is read
found_there : (d : Description) (place : NumberPlace) (offsets : Offsets) (number : Scalar) → offsets.least ≡ offsets.most → place.offset ≡ offsets.least → offsets.most + place.bytes ≤ 512 → ((frames : List (List (Option ℕ))) → AreStanding frames d.numbers → StandsAt frames place number)
    → HasThere d place.frame offsets place.bytes number
found_there d place offsets number one at inside found = λ numbers callers m address word is lies reads.
    let stands = found m.frames is.standing in
    let read = ap (λ (o : Option (List (Option ℕ))). option_map (little_number place.bytes) (option_and_then all_written o)) (frame_found 0 m.frames place.frame address place.offset place.bytes stands.live (omega (arith, lies.1, lies.2, lies.3, one, at)) (omega (arith, inside, one, at))) in
    let same : stands.word ≡ word = some_same stands.word word (sym stands.is ∙ (sym read ∙ reads)) in
    subst (Has number) same stands.has

pub found_if : (d : Description) (place : NumberPlace) (offsets : Offsets) (found : Option Scalar) → offsets.least ≡ offsets.most → place.offset ≡ offsets.least → offsets.most + place.bytes ≤ 512 → IfSome found (λ number. (frames : List (List (Option ℕ))) → AreStanding frames d.numbers → StandsAt frames place number)
    → IfSome found (λ number. HasThere d place.frame offsets place.bytes number)
found_if d place offsets None one at inside found = tt
found_if d place offsets (Some number) one at inside found = found_there d place offsets number one at inside found
