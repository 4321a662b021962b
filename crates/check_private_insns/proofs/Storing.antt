-- A store of a word, by the bytes that it writes.
use Rattle.std.proofs.Common.{◌≡◌, ℕ, ℤ, ◌+◌, ◌*◌, ◌<◌, ◌≤◌, Option, Some, Result, Ok, Err, IfOk, IsOkAnd, length, ap, sym, subst, ◌∙◌, arith}
use Rattle.std.specs.Option.{option_map}
use Rattle.std.specs.Int.{byte_len}
use Rattle.byteorder.specs.Endian.{little_bytes}
use Rattle.bpf_insn.specs.declared.insn.StoreSize.{StoreSize}
use Rattle.bpf_insn.specs.declared.reg.Reg.{Reg}
use Rattle.bpf_semantics.specs.Frames.{frame_start}
use Rattle.bpf_semantics.specs.MachineState.{register}
use Rattle.bpf_semantics.specs.Memory.{address_at, store_width}
use Rattle.check_register_kinds.specs.declared.access.Access.{Access}
use Rattle.check_description.specs.declared.description.Description.{Description}
use Rattle.check_register_kinds.specs.declared.kind.Kind.{Kind}
use Rattle.check_register_kinds.specs.declared.kind.Kind.TheVariants.{Unwritten, Number, Address, Freeze}
use Rattle.check_register_kinds.specs.declared.region.Offsets.{Offsets}
use Rattle.check_register_kinds.specs.declared.region.Region.{Region}
use Rattle.check_register_kinds.specs.declared.region.Region.TheVariants.{Frame}
use Rattle.check_register_kinds.specs.Accesses.{BeginsAt}
use Rattle.check_description.specs.Description.{kind_at}
use Rattle.check_register_kinds.specs.Kinds.{IsAt, HoldsKind, IsNumber, IsWritten, LiesAt, size_of}
use Rattle.check_description.specs.Memory.{AreKnown, AreWritten, LeavesMarked, StoresNumber, Writes, WritesWord}
use Rattle.scalar_domain.specs.declared.scalars.Scalar.{Scalar}
use Rattle.scalar_domain.specs.Scalar.{Has}
use Rattle.check_private_insns.specs.Enough.{LeavesStored, LiesInFrame}
use Rattle.check_register_kinds.specs.Freezes.{FreezeNumbers}
use Rattle.check_private_insns.specs.Memory.{StoreLeaves, Stores}
use Rattle.check_description.proofs.ByteNumbers.{bytes_below, length-low_bytes}
use Rattle.check_description.proofs.FramePlaces.{frame_is}

-- where the bytes of an access begin
abbrev pub Reaches : Kind → ℤ → Region → Offsets → Type 0
Reaches base offset region offsets = (numbers : FreezeNumbers) (o : Option ℕ) → HoldsKind numbers base o → (start : ℕ) × (o ≡ Some start) × LiesAt region offsets (address_at start offset)

some_same : (a b : ℕ) → Some a ≡ Some b → a ≡ b
some_same a b e = cc

word_of : (numbers : FreezeNumbers) (kind : Kind) (o : Option ℕ) → IsWritten kind → HoldsKind numbers kind o → (word : ℕ) × (o ≡ Some word)
word_of numbers Unwritten o written h = absurd written
word_of numbers (Number scalar) o written h = (h.0, h.1)
word_of numbers (Address region offsets) o written h = (h.0, h.1)
word_of numbers (Freeze name) o written h = (h.0, h.1)

-- the bytes of a word are bytes
pub puts_bytes : (d there : Description) (frame count : ℕ) (offsets : Offsets) (kind : Kind) → Writes d frame offsets count there → StoreLeaves d frame offsets count kind there
puts_bytes d there frame count offsets kind writes = λ numbers callers m address word is lies holds.
    writes numbers callers m address (little_bytes count word) is lies (length-low_bytes 0 count word) (bytes_below 0 count word)

-- a number is stored
pub puts_number : (d there : Description) (frame count : ℕ) (offsets : Offsets) (number : Scalar) (kind : Kind) → kind ≡ Number number → StoresNumber d frame offsets count number there → StoreLeaves d frame offsets count kind there
puts_number d there frame count offsets number kind same stores = λ numbers callers m address word is lies holds.
    let its : HoldsKind numbers (Number number) (Some word) = subst (λ (k : Kind). HoldsKind numbers k (Some word)) same holds in
    stores numbers callers m address word is lies (subst (Has number) (let one : its.0 ≡ word = sym (some_same word its.0 its.1) in one) its.2)

-- and a spill is written at one offset
pub puts_word : (d there : Description) (frame word : ℕ) (offsets : Offsets) (kind : Kind) → offsets.least ≡ 8 * word → offsets.most ≡ 8 * word → WritesWord d frame (8 * word) kind there → StoreLeaves d frame offsets 8 kind there
puts_word d there frame word offsets kind least most writes = λ numbers callers m address value is lies holds.
    let at : frame_start frame + 8 * word ≡ address = omega (arith, lies.1, lies.2, lies.3, least, most) in
    subst (λ (a : ℕ). AreWritten numbers callers m a (little_bytes 8 value) there) at (writes numbers callers m value is holds)

stores : (d there : Description) (size : StoreSize) (dst : Reg) (offset : ℤ) (word : Kind) (frame : ℕ) (offsets : Offsets) → Reaches (kind_at d dst) offset (Frame frame) offsets
    → StoreLeaves d frame offsets (byte_len (store_width size)) word there → IsWritten word → Stores d size dst offset word there
stores d there size dst offset kind frame offsets reaches puts written numbers callers m stored is holds =
    let at = reaches numbers (register m dst) (is.registers dst) in
    let word = word_of numbers kind stored written holds in
    let done = puts numbers callers m (address_at at.0 offset) word.0 is at.2 (subst (HoldsKind numbers kind) word.1 holds) in
    record {
      address = address_at at.0 offset;
      word = word.0;
      with_word = done.with_bytes;
      lies = ap (option_map (λ base. address_at base offset)) at.1;
      is = word.1;
      does = done.does;
      describes = done.describes;
    }

pub stores_ok : {E : Type 0} (r : Result (Unit {0}) E) (d there : Description) (size : StoreSize) (dst : Reg) (offset : ℤ) (word base : Kind) (region : Region) (offsets : Offsets) → base ≡ kind_at d dst
    → Reaches base offset region offsets → (count : ℕ) → count ≡ byte_len (store_width size) → IfOk r (λ x. (frame : ℕ) × (region ≡ Frame frame) × StoreLeaves d frame offsets count word there) → IsWritten word
    → IfOk r (λ x. Stores d size dst offset word there)
stores_ok (Ok x) d there size dst offset word base region offsets of_dst reaches count same (frame, in_frame, puts) written =
    stores d there size dst offset word frame offsets
    (subst (λ (k : Kind). Reaches k offset (Frame frame) offsets) of_dst (subst (λ (g : Region). Reaches base offset g offsets) in_frame reaches))
    (subst (λ (n : ℕ). StoreLeaves d frame offsets n word there) same puts) written
stores_ok (Err cause) d there size dst offset word base region offsets of_dst reaches count same puts written = tt

same_address : (f g a b : ℕ) → Address (Frame f) (record { least = a; most = a }) ≡ Address (Frame g) (record { least = b; most = b }) → (f ≡ g) × (a ≡ b)
same_address f g a b e =
    let frames : Frame f ≡ Frame g = cc in
    let offsets : (let first : Offsets = record { least = a; most = a } in first) ≡ record { least = b; most = b } = cc in
    (frame_is f g frames, ap (λ (o : Offsets). o.least) offsets)

leaves : (d there : Description) (dst : Reg) (offset : ℤ) (bytes frame at : ℕ) → IsAt (Frame frame) at (kind_at d dst) → LeavesMarked d frame (address_at at offset) bytes there → LeavesStored d dst offset bytes there
leaves d there dst offset bytes frame at base marked = record {
  registers = marked.registers;
  unspilled = marked.unspilled;
  depth = marked.depth;
  written = λ k a is.
      let same = same_address frame k at a (sym base ∙ is) in
      subst (λ (n : ℕ). AreKnown there n (address_at a offset) bytes) same.0 (subst (λ (n : ℕ). AreKnown there frame (address_at n offset) bytes) same.1 marked.written);
  known = marked.known;
  held = marked.held;
  disposal = marked.disposal;
}

-- where the access is known
leaves_ok : {E : Type 0} (r : Result (Unit {0}) E) (d there : Description) (dst : Reg) (offset : ℤ) (bytes : ℕ) (lies : LiesInFrame d dst offset bytes)
    → IsOkAnd r (λ x. LeavesMarked d lies.frame (address_at lies.at offset) bytes there) → IsOkAnd r (λ x. LeavesStored d dst offset bytes there)
leaves_ok (Ok x) d there dst offset bytes lies marked = leaves d there dst offset bytes lies.frame lies.at lies.base marked
leaves_ok (Err cause) d there dst offset bytes lies marked = marked

pub known_leaves : {E : Type 0} (r : Result (Unit {0}) E) (d there : Description) (dst : Reg) (offset given : ℤ) (word base : Kind) (access : Access) (count bytes : ℕ) → base ≡ kind_at d dst → given ≡ offset → count ≡ bytes
    → ((region : Region) (at : ℕ) → IsAt region at base → address_at at given + count ≤ size_of region → BeginsAt region (address_at at given) access)
    → ((frame from : ℕ) → access.region ≡ Frame frame → IsNumber word → access.offsets ≡ record { least = from; most = from } → frame < length d.stack → IsOkAnd r (λ x. LeavesMarked d frame from count there))
    → IsNumber word → LiesInFrame d dst offset bytes → IsOkAnd r (λ x. LeavesStored d dst offset bytes there)
known_leaves r d there dst offset given word base access count bytes of_dst is_offset is_count known marks number lies =
    let from : ℕ = address_at lies.at given in
    let inside = subst (λ (z : ℤ). address_at lies.at z + count ≤ 512) (sym is_offset) (subst (λ (n : ℕ). address_at lies.at offset + n ≤ 512) (sym is_count) lies.inside) in
    let begins = known (Frame lies.frame) lies.at (of_dst ∙ lies.base) inside in
    let marked = marks lies.frame from (ap (λ (a : Access). a.region) begins) number (ap (λ (a : Access). a.offsets) begins) lies.live in
    leaves_ok r d there dst offset bytes lies
    (subst (λ (n : ℕ). IsOkAnd r (λ x. LeavesMarked d lies.frame (address_at lies.at offset) n there)) is_count
    (subst (λ (z : ℤ). IsOkAnd r (λ x. LeavesMarked d lies.frame (address_at lies.at z) count there)) is_offset marked))
