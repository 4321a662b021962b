-- What is known along a plain program up to the end of its list: of each register of the list, and of each byte of the
-- frame, it is known, or some path comes without writing it.
use Rattle.std.proofs.Common.{◌≡◌, ℕ, ℤ, suc, ◌+◌, ◌/◌, ◌<◌, ◌≤◌, Bool, true, false, eqb, List, [], length, Some, refl, ap, sym, subst, ◌∙◌, arith, ◌⊎◌, inl, inr}
use Rattle.std.specs.Prelude.{slice_index_or}
use Rattle.std.proofs.lemmas.Bool.{cases_eq, cases_lt, cases_Bool, ne_eqb}
use Rattle.bpf_insn.specs.declared.insn.Insn.{Insn}
use Rattle.bpf_insn.specs.declared.insn.Insn.TheVariants.{Call}
use Rattle.bpf_insn.specs.declared.insn.Callee.TheVariants.{Helper}
use Rattle.bpf_insn.specs.declared.reg.Reg.{Reg}
use Rattle.bpf_insn.specs.declared.reg.Reg.TheVariants.{R0, R1, R2, R3, R4, R5, R6, R7, R8, R9, R10}
use Rattle.bpf_insn.specs.declared.program.Slot.{Slot}
use Rattle.bpf_insn.specs.Program.{insn_at}
use Rattle.bpf_insn.specs.Reg.{number_of}
use Rattle.call_shape.specs.StaticPath.{outermost, StepLeadsTo}
use Rattle.check_description.specs.declared.description.Description.{Description}
use Rattle.check_register_kinds.specs.declared.freeze_name.FreezeName.{FreezeName}
use Rattle.check_register_kinds.specs.declared.kind.Kind.{Kind}
use Rattle.check_register_kinds.specs.declared.kind.Kind.TheVariants.{Unwritten, Number, Address, Freeze}
use Rattle.check_register_kinds.specs.declared.region.Region.{Region}
use Rattle.check_register_kinds.specs.declared.region.Region.TheVariants.{Frame}
use Rattle.check_description.specs.Description.{kind_at}
use Rattle.check_register_kinds.specs.Kinds.{IsNumber, IsAt}
use Rattle.check_description.specs.Memory.{AreKnown}
use Rattle.check_private_insns.specs.Enough.{StaysKnown, ChangesOnly, LeavesKnown, LeavesStored, LeavesSure}
use Rattle.check_description.specs.Changes.{IsFreeze, LeavesGivenUp}
use Rattle.check_helper_calls.specs.Called.{LeavesCalled}
use Rattle.check_description.specs.declared.spill.Spill.{Spill}
use Rattle.check_description.specs.Spills.{spill_at}
use Rattle.reg_domain.specs.Enough.{JoinsTo}
use Rattle.verifier.specs.Plain.{ComesUnwritten, is_free, byte_of, writes_register, writes_byte}

-- some path comes to a place without writing something
abbrev pub Comes : (Insn → Bool) → List Slot → ℕ → Type 0
Comes writes program place = (n : ℕ) × ComesUnwritten writes program n place

-- a byte of the frame is known to be written
abbrev pub KnowsByte : Description → ℕ → Type 0
KnowsByte d at = AreKnown d 0 at 1

pub record IsCommon (program : List Slot) (place : ℕ) (d : Description) : Type 0 where
  pub frame : IsAt (Frame 0) 512 (kind_at d R10)
  pub depth : length d.stack ≡ 1
  pub waits : d.disposed ≡ false
  pub unspilled : d.spills ≡ []
  pub registers : (reg : Reg) → is_free reg ≡ true → IsNumber (kind_at d reg) ⊎ Comes (writes_register reg) program place
  pub bytes : (at : ℕ) → KnowsByte d at ⊎ Comes (writes_byte at) program place

-- an instruction of the program leads there
pub record IsStep (program : List Slot) (place : ℕ) (insn : Insn) (to : ℕ) : Type 0 where
  pub at : insn_at program place ≡ Some insn
  pub leads : StepLeadsTo (outermost place) insn (outermost to)

pub comes_on : (writes : Insn → Bool) (program : List Slot) (place to : ℕ) (insn : Insn) → IsStep program place insn to → writes insn ≡ false → Comes writes program place → Comes writes program to
comes_on writes program place to insn step none way = (suc way.0, (place, insn, way.1, step.at, step.leads, none))

-- where the stack is the same
same_bytes : (d there : Description) (at : ℕ) → there.stack ≡ d.stack → KnowsByte d at → KnowsByte there at
same_bytes d there at same known = subst (λ stack. AreKnown (record d { stack = stack }) 0 at 1) (sym same) known

-- registers by their numbers

pub free_not_one : (reg : Reg) → is_free reg ≡ true → 1 ≡ number_of reg → ⊥
free_not_one R0 free e = omega (arith, e)
free_not_one R1 free e = let bad : false ≡ true = free in cc
free_not_one R2 free e = let bad : false ≡ true = free in cc
free_not_one R3 free e = omega (arith, e)
free_not_one R4 free e = omega (arith, e)
free_not_one R5 free e = omega (arith, e)
free_not_one R6 free e = omega (arith, e)
free_not_one R7 free e = omega (arith, e)
free_not_one R8 free e = omega (arith, e)
free_not_one R9 free e = omega (arith, e)
free_not_one R10 free e = let bad : false ≡ true = free in cc

pub free_not_ten : (reg : Reg) → is_free reg ≡ true → eqb 10 (number_of reg) ≡ false
free_not_ten R0 free = refl
free_not_ten R1 free = refl
free_not_ten R2 free = refl
free_not_ten R3 free = refl
free_not_ten R4 free = refl
free_not_ten R5 free = refl
free_not_ten R6 free = refl
free_not_ten R7 free = refl
free_not_ten R8 free = refl
free_not_ten R9 free = refl
free_not_ten R10 free = absurd (let bad : false ≡ true = free in cc)

-- what stays known

pub stays_number : (before after : Kind) → StaysKnown before after → IsNumber before → IsNumber after
stays_number (Number scalar) after stays number = stays
stays_number Unwritten after stays number = absurd number
stays_number (Address region offsets) after stays number = absurd number
stays_number (Freeze name) after stays number = absurd number

pub stays_address : (region : Region) (at : ℕ) (before after : Kind) → StaysKnown before after → IsAt region at before → IsAt region at after
stays_address region at before after stays is = subst (λ (k : Kind). StaysKnown k after) is stays

-- a number is no freeze, and nor is an address

number_is_none : (kind : Kind) → IsNumber kind → IsFreeze kind → ⊥
number_is_none kind number (name, is) = subst IsNumber is number

address_is_none : (kind : Kind) → IsAt (Frame 0) 512 kind → IsFreeze kind → ⊥
address_is_none kind address (name, is) = absurd (let bad : Freeze name ≡ Address (Frame 0) (record { least = 512; most = 512 }) = sym is ∙ address in cc)

-- one register is written, and no byte
pub computed_on : (program : List Slot) (place to : ℕ) (insn : Insn) (dst : Reg) (d there : Description) → IsStep program place insn to
    → ((reg : Reg) → eqb (number_of dst) (number_of reg) ≡ false → writes_register reg insn ≡ false) → ((at : ℕ) → writes_byte at insn ≡ false)
    → eqb 10 (number_of dst) ≡ false → ChangesOnly dst d there → ((reg : Reg) → is_free reg ≡ true → number_of dst ≡ number_of reg → IsNumber (kind_at there reg))
    → IsCommon program place d → IsCommon program to there
computed_on program place to insn dst d there step writes spares apart only numbers is = record {
  frame = only.others R10 apart ∙ is.frame;
  depth = ap length only.stack ∙ is.depth;
  waits = only.disposal ∙ is.waits;
  unspilled = only.spills ∙ is.unspilled;
  registers = λ reg free. elim (cases_eq (number_of dst) (number_of reg)) [
    | inl same ↦ inl (numbers reg free same)
    | inr other ↦
        let kept : kind_at there reg ≡ kind_at d reg = only.others reg (ne_eqb (number_of reg) (number_of dst) (λ same. other (sym same))) in
        elim (is.registers reg free) [
          | inl number ↦ inl (subst IsNumber (sym kept) number)
          | inr way ↦ inr (comes_on (writes_register reg) program place to insn step (writes reg (ne_eqb (number_of dst) (number_of reg) other)) way)
        ]
  ];
  bytes = λ at. elim (is.bytes at) [
    | inl known ↦ inl (same_bytes d there at only.stack known)
    | inr way ↦ inr (comes_on (writes_byte at) program place to insn step (spares at) way)
  ];
}

-- a register of the list gets a number
pub number_on : (program : List Slot) (place to : ℕ) (insn : Insn) (dst : Reg) (d there : Description) → IsStep program place insn to
    → ((reg : Reg) → eqb (number_of dst) (number_of reg) ≡ false → writes_register reg insn ≡ false) → ((at : ℕ) → writes_byte at insn ≡ false)
    → is_free dst ≡ true → ChangesOnly dst d there → IsNumber (kind_at there dst) → IsCommon program place d → IsCommon program to there
number_on program place to insn dst d there step writes spares free only number is =
    computed_on program place to insn dst d there step writes spares (free_not_ten dst free) only
    (λ reg free_reg same. subst (λ (n : ℕ). IsNumber (slice_index_or there.registers n Unwritten)) same number) is

-- what a jump keeps
pub record KeepsCommon (d there : Description) : Type 0 where
  pub frame : IsAt (Frame 0) 512 (kind_at d R10) → IsAt (Frame 0) 512 (kind_at there R10)
  pub numbers : (reg : Reg) → IsNumber (kind_at d reg) → IsNumber (kind_at there reg)
  pub stack : there.stack ≡ d.stack
  pub unspilled : d.spills ≡ [] → there.spills ≡ []
  pub disposal : there.disposed ≡ d.disposed

pub compared_keeps : (d there : Description) → LeavesKnown d there → KeepsCommon d there
compared_keeps d there leaves = record {
  frame = stays_address (Frame 0) 512 (kind_at d R10) (kind_at there R10) (leaves.registers R10);
  numbers = λ reg. stays_number (kind_at d reg) (kind_at there reg) (leaves.registers reg);
  stack = leaves.stack;
  unspilled = λ none. leaves.spills ∙ none;
  disposal = leaves.disposal;
}

pub sure_keeps : (name : FreezeName) (d there : Description) → LeavesSure name d there → KeepsCommon d there
sure_keeps name d there leaves = record {
  frame = λ is. same R10 ∙ is;
  numbers = λ reg is. subst IsNumber (sym (same reg)) is;
  stack = leaves.stack;
  unspilled = λ none. leaves.spills ∙ none;
  disposal = leaves.disposal;
}
  where
    same : (reg : Reg) → kind_at there reg ≡ kind_at d reg
    same reg = ap (λ kinds. slice_index_or kinds (number_of reg) Unwritten) leaves.registers

pub given_up_keeps : (name : FreezeName) (copy : Kind) (d there : Description) → LeavesGivenUp name copy d there → KeepsCommon d there
given_up_keeps name copy d there leaves = record {
  frame = λ is. leaves.others R10 (λ same. address_is_none (kind_at d R10) is (name, same)) ∙ is;
  numbers = λ reg is. subst IsNumber (sym (leaves.others reg (λ same. number_is_none (kind_at d reg) is (name, same)))) is;
  stack = leaves.stack;
  unspilled = leaves.unspilled;
  disposal = leaves.disposal;
}

-- nothing is written
pub known_on : (program : List Slot) (place to : ℕ) (insn : Insn) (d there : Description) → IsStep program place insn to → ((reg : Reg) → writes_register reg insn ≡ false) → ((at : ℕ) → writes_byte at insn ≡ false) → KeepsCommon d there → IsCommon program place d → IsCommon program to there
known_on program place to insn d there step writes spares leaves is = record {
  frame = leaves.frame is.frame;
  depth = ap length leaves.stack ∙ is.depth;
  waits = leaves.disposal ∙ is.waits;
  unspilled = leaves.unspilled is.unspilled;
  registers = λ reg free. elim (is.registers reg free) [
    | inl number ↦ inl (leaves.numbers reg number)
    | inr way ↦ inr (comes_on (writes_register reg) program place to insn step (writes reg) way)
  ];
  bytes = λ at. elim (is.bytes at) [
    | inl known ↦ inl (same_bytes d there at leaves.stack known)
    | inr way ↦ inr (comes_on (writes_byte at) program place to insn step (spares at) way)
  ];
}

-- a helper is called, which keeps R6 to R9; no path has written the others yet
pub called_on : (program : List Slot) (place to : ℕ) (number : ℤ) (name : FreezeName) (d there : Description) → IsStep program place (Call (Helper number)) to → LeavesCalled name d number there → there.disposed ≡ d.disposed
    → ((reg : Reg) → is_free reg ≡ true → number_of reg < 6 → Comes (writes_register reg) program place) → IsCommon program place d → IsCommon program to there
called_on program place to number name d there step leaves same low is = record {
  frame = leaves.registers R10 (omega arith) (address_is_none (kind_at d R10) is.frame) ∙ is.frame;
  depth = leaves.depth ∙ is.depth;
  waits = same ∙ is.waits;
  unspilled = leaves.unspilled is.unspilled;
  registers = λ reg free. elim (cases_lt (number_of reg) 6) [
    | inl lt ↦ inr (comes_on (writes_register reg) program place to (Call (Helper number)) step refl (low reg free lt))
    | inr ge ↦ elim (is.registers reg free) [
      | inl is_number ↦ inl (subst IsNumber (sym (leaves.registers reg ge (number_is_none (kind_at d reg) is_number))) is_number)
      | inr way ↦ inr (comes_on (writes_register reg) program place to (Call (Helper number)) step refl way)
    ]
  ];
  bytes = λ at. elim (is.bytes at) [
    | inl known ↦ inl (λ k from to. leaves.known 0 k (known k from to))
    | inr way ↦ inr (comes_on (writes_byte at) program place to (Call (Helper number)) step refl way)
  ];
}

-- bytes of the frame are written
pub stored_on : (program : List Slot) (place to : ℕ) (insn : Insn) (d there : Description) (offset : ℤ) (bytes : ℕ) → IsStep program place insn to → ((reg : Reg) → writes_register reg insn ≡ false)
    → ((at : ℕ) → writes_byte at insn ≡ true → (byte_of offset ≤ at) × (at < byte_of offset + bytes)) → LeavesStored d R10 offset bytes there → IsCommon program place d → IsCommon program to there
stored_on program place to insn d there offset bytes step writes stores leaves is =
    let same : (reg : Reg) → kind_at there reg ≡ kind_at d reg = λ reg. ap (λ kinds. slice_index_or kinds (number_of reg) Unwritten) leaves.registers in
    record {
      frame = same R10 ∙ is.frame;
      depth = leaves.depth ∙ is.depth;
      waits = leaves.disposal ∙ is.waits;
      unspilled = leaves.unspilled is.unspilled;
      registers = λ reg free. elim (is.registers reg free) [
        | inl number ↦ inl (subst IsNumber (sym (same reg)) number)
        | inr way ↦ inr (comes_on (writes_register reg) program place to insn step (writes reg) way)
      ];
      bytes = λ at. elim (cases_Bool (writes_byte at insn)) [
        | inl writes_it ↦ inl (λ k from to. let there_is = stores at writes_it in leaves.written 0 512 is.frame k (omega (arith, from, there_is.0)) (omega (arith, from, to, there_is.1)))
        | inr none ↦ elim (is.bytes at) [
          | inl known ↦ inl (λ k from to. leaves.known 0 k (known k from to))
          | inr way ↦ inr (comes_on (writes_byte at) program place to insn step none way)
        ]
      ];
    }

-- two paths join
pub common_joined : (program : List Slot) (place : ℕ) (a b joined : Description) → IsCommon program place a → IsCommon program place b → JoinsTo a b joined → IsCommon program place joined
common_joined program place a b joined is_a is_b joins = record {
  frame = joins.equal R10 (is_a.frame ∙ sym is_b.frame) ∙ is_a.frame;
  depth = joins.depth ∙ is_a.depth;
  waits = joins.disposal ∙ is_a.waits;
  unspilled = joins.unspilled is_a.unspilled;
  registers = λ reg free. elim (is_a.registers reg free) [
    | inl first ↦ elim (is_b.registers reg free) [
      | inl second ↦ inl (joins.numbers reg first second)
      | inr way ↦ inr way
    ]
    | inr way ↦ inr way
  ];
  bytes = λ at. elim (is_a.bytes at) [
    | inl first ↦ elim (is_b.bytes at) [
      | inl second ↦ inl (λ k from to. joins.known 0 k (ap (λ (s : List Spill). spill_at s 0 (k / 8)) (is_a.unspilled ∙ sym is_b.unspilled)) (first k from to) (second k from to))
      | inr way ↦ inr way
    ]
    | inr way ↦ inr way
  ];
}
