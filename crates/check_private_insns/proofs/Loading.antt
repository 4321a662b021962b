-- What a load gives where a machine is described.
use Rattle.std.proofs.Common.{◌≡◌, ℕ, ℤ, ◌+◌, ◌-◌, ◌^◌, ◌<◌, ◌≤◌, List, Option, Some, None, IfSome, Result, Ok, Err, IfOk, length, take, drop, arith, ap, sym, subst, ◌∙◌}
use Rattle.std.specs.Option.{option_map, option_and_then}
use Rattle.std.specs.Int.{byte_len, w64}
use Rattle.std.proofs.lemmas.Bool.{cond-false}
use Rattle.bpf_stack_frame.specs.Frame.{all_written}
use Rattle.bpf_semantics.specs.Frames.{frame_bytes}
use Rattle.byteorder.specs.Endian.{little_number}
use Rattle.bpf_insn.specs.declared.insn.LoadForm.{LoadForm}
use Rattle.bpf_insn.specs.declared.reg.Reg.{Reg}
use Rattle.bpf_semantics.specs.MachineState.{MachineState, context_address, register}
use Rattle.bpf_semantics.specs.Memory.{address_at, in_context, load_width, loaded, word_from}
use Rattle.check_register_kinds.specs.declared.kind.Kind.{Kind}
use Rattle.check_register_kinds.specs.declared.region.Offsets.{Offsets}
use Rattle.check_register_kinds.specs.declared.region.Region.{Region}
use Rattle.check_register_kinds.specs.declared.region.Region.TheVariants.{Frame}
use Rattle.check_register_kinds.specs.Kinds.{HoldsKind, LiesAt, size_of}
use Rattle.check_description.specs.Memory.{HasThere, word_there}
use Rattle.scalar_domain.specs.declared.scalars.Scalar.{Scalar}
use Rattle.scalar_domain.specs.Scalar.{Has}
use Rattle.check_private_insns.proofs.Reading.{not_in_context}
use Rattle.check_register_kinds.specs.Freezes.{FreezeNumbers}
use Rattle.check_register_kinds.specs.declared.access.Access.{Access}
use Rattle.check_description.specs.declared.description.Description.{Description}
use Rattle.check_description.specs.Description.{kind_at}
use Rattle.check_private_insns.specs.Memory.{AreThere, HasLoaded, IsPlaceOf, LoadGives, IsLoaded, Loads, AccessReads, ReadsPlace}
use Rattle.check_private_insns.proofs.Storing.{Reaches}
use Rattle.stack_domain.specs.declared.numbers.NumberPlace.{NumberPlace}
use Rattle.check_description.proofs.ByteNumbers.{number_below}
use Rattle.check_description.proofs.FramePlaces.{frame_found}

-- what is read is the word of its bytes
pub is_loaded : (numbers : FreezeNumbers) (m : MachineState) (form : LoadForm) (src : Reg) (offset : ℤ) (start : ℕ) (kind : Kind) → register m src ≡ Some start
    → AreThere m (address_at start offset) (byte_len (load_width form))
    → ((word : ℕ) → word_from (load_width form) m (address_at start offset) ≡ Some word → word < 256 ^ byte_len (load_width form) → HoldsKind numbers kind (Some (loaded form word))) → IsLoaded numbers m form src offset kind
is_loaded numbers m form src offset start kind at there holds =
    let bytes : ℕ = byte_len (load_width form) in
    let word : ℕ = little_number bytes there.found in
    let is : word_from (load_width form) m (address_at start offset) ≡ Some word = ap (option_map (little_number bytes)) there.are in
    record {
      address = address_at start offset;
      word = word;
      lies = ap (option_map (λ base. address_at base offset)) at;
      is = is;
      holds = holds word is (number_below bytes 0 there.found there.each);
    }

some_same : (a b : ℕ) → Some a ≡ Some b → a ≡ b
some_same a b e = cc

-- the eight bytes of a frame are what a load of a double word reads
pub spill_given : (numbers : FreezeNumbers) (m : MachineState) (frame address word : ℕ) (offsets : Offsets) (kind : Kind) → LiesAt (Frame frame) offsets address → HoldsKind numbers kind (word_there m address)
    → word_from w64 m address ≡ Some word → HoldsKind numbers kind (Some word)
spill_given numbers m frame address word offsets kind lies holds is =
    let same : word_from w64 m address ≡ word_there m address =
    ap (option_map (little_number 8)) (cond-false (in_context address 8) (Some (take 8 (drop (address - context_address) m.context))) (option_and_then all_written (frame_bytes 0 m.frames address 8)) (not_in_context frame address lies.0 8 lies.1)) in
    subst (HoldsKind numbers kind) (sym same ∙ is) holds

-- what is known of the word is known of what the load gives
pub loads_ok : {E : Type 0} (r : Result Kind E) (d : Description) (form : LoadForm) (src : Reg) (offset : ℤ) (base : Kind) (access : Access) (bytes : ℕ) → base ≡ kind_at d src → Reaches base offset access.region access.offsets → bytes ≡ byte_len (load_width form)
    → AccessReads d access bytes → IfOk r (LoadGives d form access.region access.offsets) → IfOk r (Loads d form src offset)
loads_ok (Ok kind) d form src offset base access bytes of_src reaches all reads gives = λ numbers callers m is.
    let at = subst (λ (k : Kind). Reaches k offset access.region access.offsets) of_src reaches numbers (register m src) (is.registers src) in
    let there = subst (AreThere m (address_at at.0 offset)) all (reads numbers callers m (address_at at.0 offset) is at.2) in
    is_loaded numbers m form src offset at.0 kind at.1 there (λ word. gives numbers callers m (address_at at.0 offset) word is at.2)
loads_ok (Err cause) d form src offset base access bytes of_src reaches all reads gives = gives

-- a number that is kept is what a load without a sign gives
pub number_given : (d : Description) (form : LoadForm) (frame bytes : ℕ) (offsets : Offsets) (number : Scalar) → bytes ≡ byte_len (load_width form) → ((word : ℕ) → loaded form word ≡ word) → HasThere d frame offsets bytes number → HasLoaded d form frame offsets number
number_given d form frame bytes offsets number all plain has = λ numbers callers m address word is lies reads small.
    let n : ℕ = byte_len (load_width form) in
    let same : word_from (load_width form) m address ≡ option_map (little_number n) (option_and_then all_written (frame_bytes 0 m.frames address n)) =
    ap (option_map (little_number n)) (cond-false (in_context address n) (Some (take n (drop (address - context_address) m.context))) (option_and_then all_written (frame_bytes 0 m.frames address n)) (not_in_context frame address lies.0 n lies.1)) in
    subst (Has number) (sym (plain word)) (subst (λ (k : ℕ). HasThere d frame offsets k number) all has numbers callers m address word is lies (sym same ∙ reads))

-- a load without a sign of one place gives what stands there
pub place_read : (d : Description) (form : LoadForm) (src : Reg) (offset : ℤ) (base : Kind) (access : Access) (bytes depth : ℕ) (place : NumberPlace) → base ≡ kind_at d src → Reaches base offset access.region access.offsets → access.offsets.most + bytes ≤ size_of access.region
    → bytes ≡ byte_len (load_width form) → ((word : ℕ) → loaded form word ≡ word) → depth ≡ length d.stack → IsPlaceOf depth access bytes place → ReadsPlace d form src offset place
place_read d form src offset base access bytes depth place of_src reaches fits all plain live it = λ numbers callers m address word is lies reads.
    let n : ℕ = byte_len (load_width form) in
    let at = subst (λ (k : Kind). Reaches k offset access.region access.offsets) of_src reaches numbers (register m src) (is.registers src) in
    let there : address_at at.0 offset ≡ address = some_same _ _ (sym (ap (option_map (λ base. address_at base offset)) at.1) ∙ lies) in
    let lie : LiesAt (Frame place.frame) access.offsets address = subst (LiesAt (Frame place.frame) access.offsets) there (subst (λ (r : Region). LiesAt r access.offsets (address_at at.0 offset)) it.region at.2) in
    let inside : access.offsets.most + bytes ≤ 512 = subst (λ (r : Region). access.offsets.most + bytes ≤ size_of r) it.region fits in
    let here : place.frame < length m.frames = omega (arith, it.live, live, is.frames.depth) in
    let found = ap (λ (o : Option (List (Option ℕ))). option_map (little_number place.bytes) (option_and_then all_written o)) (frame_found 0 m.frames place.frame address place.offset place.bytes here (omega (arith, lie.1, lie.2, lie.3, it.least, it.most)) (omega (arith, inside, it.most, it.count))) in
    let same : word_from (load_width form) m address ≡ option_map (little_number n) (option_and_then all_written (frame_bytes 0 m.frames address n)) =
    ap (option_map (little_number n)) (cond-false (in_context address n) (Some (take n (drop (address - context_address) m.context))) (option_and_then all_written (frame_bytes 0 m.frames address n)) (not_in_context place.frame address lie.0 n lie.1)) in
    let counted : option_map (little_number place.bytes) (option_and_then all_written (frame_bytes 0 m.frames address place.bytes)) ≡ option_map (little_number n) (option_and_then all_written (frame_bytes 0 m.frames address n)) =
    ap (λ (k : ℕ). option_map (little_number k) (option_and_then all_written (frame_bytes 0 m.frames address k))) (it.count ∙ all) in
    (here, sym found ∙ (counted ∙ (sym same ∙ (reads ∙ ap Some (sym (plain word))))))

pub place_read_if : (d : Description) (form : LoadForm) (src : Reg) (offset : ℤ) (base : Kind) (access : Access) (bytes depth : ℕ) (place : Option NumberPlace) → base ≡ kind_at d src → Reaches base offset access.region access.offsets → access.offsets.most + bytes ≤ size_of access.region
    → bytes ≡ byte_len (load_width form) → ((word : ℕ) → loaded form word ≡ word) → depth ≡ length d.stack → IfSome place (IsPlaceOf depth access bytes) → IfSome place (ReadsPlace d form src offset)
place_read_if d form src offset base access bytes depth None of_src reaches fits all plain live it = tt
place_read_if d form src offset base access bytes depth (Some place) of_src reaches fits all plain live it = place_read d form src offset base access bytes depth place of_src reaches fits all plain live it
