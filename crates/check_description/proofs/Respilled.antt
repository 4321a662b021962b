-- A word that was written whole is described as a spill.
use Rattle.std.proofs.Common.{◌≡◌, ℕ, ◌+◌, ◌*◌, ◌^◌, ◌<◌, List, [], Option, Some, Result, Ok, Err, IfOk, length, refl, ap, sym, ◌∙◌, arith, ◌⊎◌, inl, inr}
use Rattle.std.specs.Prelude.{slice_index_or}
use Rattle.std.specs.Option.{option_map}
use Rattle.byteorder.specs.Endian.{little_bytes}
use Rattle.stack_domain.specs.Stores.{stored}
use Rattle.bpf_semantics.specs.MachineState.{MachineState}
use Rattle.bpf_semantics.specs.Memory.{with_memory}
use Rattle.bpf_semantics.specs.Frames.{frame_start}
use Rattle.bpf_semantics.proofs.MemoryFound.{bytes_length}
use Rattle.check_register_kinds.specs.declared.kind.Kind.{Kind}
use Rattle.check_register_kinds.specs.declared.region.Region.{Region}
use Rattle.check_register_kinds.specs.declared.region.Offsets.{Offsets}
use Rattle.check_register_kinds.specs.Freezes.{FreezeNumbers}
use Rattle.check_register_kinds.specs.Kinds.{HoldsKind, LiesAt}
use Rattle.check_description.specs.declared.description.Description.{Description}
use Rattle.check_description.specs.declared.saved.SavedRegisters.{SavedRegisters}
use Rattle.check_description.specs.declared.spill.Spill.{Spill}
use Rattle.check_description.specs.declared.spill.Spill.TheVariants.{Nothing, Address}
use Rattle.check_description.specs.Description.{DescribesWith}
use Rattle.check_description.specs.Memory.{Writes, WritesWord}
use Rattle.check_description.specs.Spills.{AreSpilled, at_place, kind_of, spill_at, word_at}
use Rattle.check_description.proofs.ByteNumbers.{bytes_below}
use Rattle.check_description.proofs.FramePlaces.{frame_stored}
use Rattle.check_description.proofs.Spilled.{put_spilled, spill_below}
use Rattle.check_description.proofs.Words.{word_stored}

some_same : {X : Type 0} (x y : X) → Some x ≡ Some y → x ≡ y
some_same x y e = cc

-- the same but for what is spilled
pub respilled : (numbers : FreezeNumbers) (callers : List SavedRegisters) (d : Description) (m : MachineState) (spills : List Spill) → DescribesWith numbers callers d m → AreSpilled numbers spills m.frames → DescribesWith numbers callers (record d { spills = spills }) m
respilled numbers callers d m spills is spilled = record {
  registers = is.registers;
  count = is.count;
  frames = is.frames;
  standing = is.standing;
  loaded = is.loaded;
  spills = spilled;
  bytes = is.bytes;
  context = is.context;
  held = is.held;
  disposal = is.disposal;
  calls = is.calls;
  depth = is.depth;
}

module _ (d written : Description) (spills : List Spill) (frame word : ℕ) (kind : Kind) (spill : Spill) (live : frame < length d.stack) (few : word < 64)
    (writes : Writes d frame (record { least = 8 * word; most = 8 * word }) 8 written)
    (holds : (numbers : FreezeNumbers) (o : Option ℕ) → HoldsKind numbers kind o → HoldsKind numbers (kind_of spill) o)
    (near : (region : Region) (offsets : Offsets) (address : ℕ) → spill ≡ Address region offsets → LiesAt region offsets address → address < 2 ^ 64)
    (put : spill_at spills frame word ≡ spill) (others : (place : ℕ) → (place ≡ 64 * frame + word → ⊥) → at_place spills place ≡ at_place written.spills place) where
  writes_word : WritesWord d frame (8 * word) kind (record written { spills = spills })
  writes_word numbers callers m value is its =
      let bytes : List ℕ = little_bytes 8 value in
      let address : ℕ = frame_start frame + 8 * word in
      let there : frame < length m.frames = omega (arith, live, is.frames.depth) in
      let whole : length (slice_index_or m.frames frame []) ≡ 512 = is.frames.whole frame there in
      let long : length bytes ≡ 8 = bytes_length 0 8 value in
      let done = writes numbers callers m address bytes is (8 * word, refl, omega arith, omega arith, omega (arith, few)) long (bytes_below 0 8 value) in
      let stores : with_memory m address bytes ≡ Some (record m { frames = stored m.frames frame (8 * word) bytes }) =
      ap (option_map (λ frames. record m { frames = frames })) (frame_stored 0 m.frames frame address (8 * word) bytes there (omega arith) (omega (arith, long, few))) in
      let same : done.with_bytes ≡ record m { frames = stored m.frames frame (8 * word) bytes } = some_same _ _ (sym done.does ∙ stores) in
      let frames : done.with_bytes.frames ≡ stored m.frames frame (8 * word) bytes = ap (λ (n : MachineState). n.frames) same in
      let stands : (spill ≡ Nothing) ⊎ (word_at done.with_bytes.frames frame word ≡ Some value) =
      elim (spill_below numbers d.held m.held spill value is.held (λ region offsets. near region offsets value) (holds numbers (Some value) its)) [
        | inl none ↦ inl none
        | inr small ↦ inr (ap (λ (f : List (List (Option ℕ))). word_at f frame word) frames ∙ word_stored m.frames frame word value there (omega (arith, whole, few)) small)
      ] in
      record {
        with_bytes = done.with_bytes;
        does = done.does;
        describes = respilled numbers callers written done.with_bytes spills done.describes
            (put_spilled numbers written.spills spills done.with_bytes.frames frame word value spill few put others stands (holds numbers (Some value) its) done.describes.spills);
      }

pub spilled_word : {X E : Type 0} (r : Result X E) (d written : Description) (spills : List Spill) (frame word : ℕ) (kind : Kind) (spill : Spill) → frame < length d.stack → word < 64
    → Writes d frame (record { least = 8 * word; most = 8 * word }) 8 written
    → ((numbers : FreezeNumbers) (o : Option ℕ) → HoldsKind numbers kind o → HoldsKind numbers (kind_of spill) o)
    → ((region : Region) (offsets : Offsets) (address : ℕ) → spill ≡ Address region offsets → LiesAt region offsets address → address < 2 ^ 64)
    → IfOk r (λ _. spill_at spills frame word ≡ spill) → IfOk r (λ _. (place : ℕ) → (place ≡ 64 * frame + word → ⊥) → at_place spills place ≡ at_place written.spills place)
    → IfOk r (λ _. WritesWord d frame (8 * word) kind (record written { spills = spills }))
spilled_word (Ok x) d written spills frame word kind spill live few writes holds near put others = writes_word d written spills frame word kind spill live few writes holds near put others
spilled_word (Err e) d written spills frame word kind spill live few writes holds near put others = put
