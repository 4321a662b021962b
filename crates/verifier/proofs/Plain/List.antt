-- The list of a plain program: what is known is enough for each of its instructions, and goes on.
use Rattle.std.proofs.Common.{◌≡◌, ℕ, ℤ, ◌+◌, ◌<◌, ◌≤◌, true, List, [], Some, None, refl, ap, sym, subst, ◌∙◌, arith, inl, inr}
use Rattle.std.specs.Int.{byte_len}
use Rattle.std.proofs.lemmas.Bool.{and_parts, leb-true, ltb-true}
use Rattle.bpf_insn.specs.declared.insn.Insn.{Insn}
use Rattle.bpf_insn.specs.declared.insn.Insn.TheVariants.{Alu, InPlace, SignExtend, JumpIf, Jump, LoadImmediate, Load, Store, Call, Exit}
use Rattle.bpf_insn.specs.declared.insn.Operand.{Operand}
use Rattle.bpf_insn.specs.declared.insn.Operand.TheVariants.{Immediate, Register}
use Rattle.bpf_insn.specs.declared.reg.Reg.{Reg}
use Rattle.bpf_insn.specs.declared.reg.Reg.TheVariants.{R10}
use Rattle.bpf_insn.specs.declared.program.Slot.{Slot}
use Rattle.bpf_insn.specs.Target.{target}
use Rattle.bpf_semantics.specs.Memory.{load_width, store_width}
use Rattle.call_shape.specs.StaticPath.{outermost, StepLeadsTo}
use Rattle.check_description.specs.declared.description.Description.{Description}
use Rattle.check_private_insns.specs.declared.way.Way.{Way}
use Rattle.check_private_insns.specs.declared.way.Way.TheVariants.{FallThrough, Taken}
use Rattle.check_register_kinds.specs.declared.region.Region.TheVariants.{Frame}
use Rattle.check_description.specs.Description.{kind_at}
use Rattle.check_register_kinds.specs.Kinds.{IsNumber, IsAt}
use Rattle.reg_domain.specs.Enough.{Enough, Leaves}
use Rattle.check_description.specs.declared.spill.Spill.{Spill}
use Rattle.check_description.specs.Spills.{spill_at}
use Rattle.check_private_insns.specs.Enough.{IsNumberOperand, ComparesNumbers, LiesInFrame, LeavesStored}
use Rattle.verifier.specs.Arrives.{goes_to}
use Rattle.verifier.specs.Plain.{IsListed, IsFreeOperand, ReadsRegister, ReadsByte, ComesUnwritten, is_free, byte_of, writes_register, writes_byte}
use Rattle.verifier.proofs.Plain.Known.{IsCommon, IsStep, compared_keeps, number_on, known_on, stored_on}

-- where the list stands, and at the slot after it
pub record AtList (program : List Slot) (place : ℕ) (d : Description) : Type 0 where
  pub common : IsCommon program place d
  pub held : d.held ≡ []

-- no path comes to an instruction of the list without writing what that reads
pub record ReadsWritten (program : List Slot) (place : ℕ) (insn : Insn) : Type 0 where
  pub registers : (reg : Reg) → is_free reg ≡ true → ReadsRegister insn reg → (n : ℕ) → ComesUnwritten (writes_register reg) program n place → ⊥
  pub bytes : (at : ℕ) → ReadsByte insn at → (n : ℕ) → ComesUnwritten (writes_byte at) program n place → ⊥

-- so a register that is read is a number
read_number : (program : List Slot) (place : ℕ) (insn : Insn) (d : Description) (reg : Reg) → IsCommon program place d → ReadsWritten program place insn → is_free reg ≡ true → ReadsRegister insn reg → IsNumber (kind_at d reg)
read_number program place insn d reg is written free reads = elim (is.registers reg free) [
  | inl number ↦ number
  | inr way ↦ absurd (written.registers reg free reads way.0 way.1)
]

read_operand : (program : List Slot) (place : ℕ) (insn : Insn) (d : Description) (src : Operand) → IsCommon program place d → ReadsWritten program place insn → IsFreeOperand src → ((reg : Reg) → src ≡ Register reg → ReadsRegister insn reg) → IsNumberOperand d src
read_operand program place insn d (Immediate value) is written free reads = tt
read_operand program place insn d (Register reg) is written free reads = read_number program place insn d reg is written free (reads reg refl)

-- an access by R10
abbrev in_frame : (program : List Slot) (place : ℕ) (d : Description) (base : Reg) (offset : ℤ) (bytes : ℕ) → IsCommon program place d → base ≡ R10 → byte_of offset + bytes ≤ 512 → LiesInFrame d base offset bytes
in_frame program place d base offset bytes is base_is fits = record {
  frame = 0;
  at = 512;
  base = subst (λ (reg : Reg). IsAt (Frame 0) 512 (kind_at d reg)) (sym base_is) is.frame;
  live = omega (arith, is.depth);
  inside = fits;
}

pub list_enough : (program : List Slot) (place end : ℕ) (insn : Insn) (d : Description) → IsListed place end insn → ReadsWritten program place insn → AtList program place d → Enough insn d
list_enough program place end (Alu width op dst src) d listed written is =
    let insn = Alu width op dst src in
    inl (
      (λ reads. read_number program place insn d dst is.common written listed.0 (inl (reads, refl))),
      read_operand program place insn d src is.common written listed.1 (λ reg same. inr same),
    )
list_enough program place end (InPlace op dst) d listed written is = read_number program place (InPlace op dst) d dst is.common written listed refl
list_enough program place end (SignExtend extension dst src) d listed written is = read_number program place (SignExtend extension dst src) d src is.common written listed.1 refl
list_enough program place end (JumpIf width condition dst src offset) d listed written is =
    let insn = JumpIf width condition dst src offset in
    inl (record {
      first = read_number program place insn d dst is.common written listed.0 (inl refl);
      second = read_operand program place insn d src is.common written listed.1 (λ reg same. inr same);
    })
list_enough program place end (Load form dst src offset) d listed written is =
    inr (record {
      there = in_frame program place d src offset (byte_len (load_width form)) is.common listed.1 listed.2;
      known = λ at from to. elim (is.common.bytes at) [
        | inl known ↦ known at (omega arith) (omega arith)
        | inr way ↦ absurd (written.bytes at (from, to) way.0 way.1)
      ];
      unspilled = λ word few from to. ap (λ (s : List Spill). spill_at s 0 word) is.common.unspilled;
    })
list_enough program place end (Store size dst src offset) d listed written is =
    let insn = Store size dst src offset in (
      read_operand program place insn d src is.common written listed.0 (λ reg same. inr same),
      in_frame program place d dst offset (byte_len (store_width size)) is.common listed.1 listed.2,
    )
list_enough program place end (Jump distance) d listed written is = absurd listed
list_enough program place end (LoadImmediate dst value) d listed written is = absurd listed
list_enough program place end (Call callee) d listed written is = absurd listed
list_enough program place end Exit d listed written is = absurd listed

-- where an instruction of the list leads: on within the list, or to the slot after it
pub record LeadsOn (place end : ℕ) (insn : Insn) (to : ℕ) : Type 0 where
  pub leads : StepLeadsTo (outermost place) insn (outermost to)
  pub on : place < to
  pub up_to : to ≤ end

same_slot : (a b : ℕ) → Some a ≡ Some b → a ≡ b
same_slot a b e = cc

-- where it goes one way
next_on : (place end : ℕ) (insn : Insn) (to : ℕ) → place < end → StepLeadsTo (outermost place) insn (outermost (place + 1)) → Some (place + 1) ≡ Some to → LeadsOn place end insn to
next_on place end insn to lt leads e =
    let same = same_slot (place + 1) to e in
    record { leads = subst (λ (k : ℕ). StepLeadsTo (outermost place) insn (outermost k)) same leads; on = omega (arith, same); up_to = omega (arith, same, lt) }

nowhere : (to : ℕ) {A : Type 0} → None ≡ Some to → A
nowhere to e = absurd cc

pub list_leads : (place end : ℕ) (insn : Insn) (way : Way) (to : ℕ) → place < end → IsListed place end insn → goes_to place insn way ≡ Some to → LeadsOn place end insn to
list_leads place end (Alu width op dst src) FallThrough to lt listed e = next_on place end (Alu width op dst src) to lt refl e
list_leads place end (Alu width op dst src) Taken to lt listed e = nowhere to e
list_leads place end (InPlace op dst) FallThrough to lt listed e = next_on place end (InPlace op dst) to lt refl e
list_leads place end (InPlace op dst) Taken to lt listed e = nowhere to e
list_leads place end (SignExtend extension dst src) FallThrough to lt listed e = next_on place end (SignExtend extension dst src) to lt refl e
list_leads place end (SignExtend extension dst src) Taken to lt listed e = nowhere to e
list_leads place end (JumpIf width condition dst src offset) FallThrough to lt listed e = next_on place end (JumpIf width condition dst src offset) to lt (inl refl) e
list_leads place end (JumpIf width condition dst src offset) Taken to lt listed e =
    let same = same_slot (target place offset) to e in
    record { leads = inr (ap outermost (sym same)); on = omega (arith, listed.2, same); up_to = omega (arith, listed.3, same) }
list_leads place end (Load form dst src offset) FallThrough to lt listed e = next_on place end (Load form dst src offset) to lt refl e
list_leads place end (Load form dst src offset) Taken to lt listed e = nowhere to e
list_leads place end (Store size dst src offset) FallThrough to lt listed e = next_on place end (Store size dst src offset) to lt refl e
list_leads place end (Store size dst src offset) Taken to lt listed e = nowhere to e
list_leads place end (Jump distance) way to lt listed e = absurd listed
list_leads place end (LoadImmediate dst value) way to lt listed e = absurd listed
list_leads place end (Call callee) way to lt listed e = absurd listed
list_leads place end Exit way to lt listed e = absurd listed

-- and what is known there
pub list_follows : (program : List Slot) (place end to : ℕ) (insn : Insn) (way : Way) (d there : Description) → IsListed place end insn → ReadsWritten program place insn → IsStep program place insn to → Leaves insn way d there → AtList program place d → AtList program to there
list_follows program place end to (Alu width op dst src) way d there listed written step leaves is =
    let insn = Alu width op dst src in
    let number = leaves.number (read_operand program place insn d src is.common written listed.1 (λ reg same. inr same)) in
    record {
      common = number_on program place to insn dst d there step (λ reg apart. apart) (λ at. refl) listed.0 leaves.only number is.common;
      held = leaves.only.held ∙ is.held;
    }
list_follows program place end to (InPlace op dst) way d there listed written step leaves is = record {
  common = number_on program place to (InPlace op dst) dst d there step (λ reg apart. apart) (λ at. refl) listed leaves.only leaves.number is.common;
  held = leaves.only.held ∙ is.held;
}
list_follows program place end to (SignExtend extension dst src) way d there listed written step leaves is = record {
  common = number_on program place to (SignExtend extension dst src) dst d there step (λ reg apart. apart) (λ at. refl) listed.0 leaves.only leaves.number is.common;
  held = leaves.only.held ∙ is.held;
}
list_follows program place end to (JumpIf width condition dst src offset) way d there listed written step leaves is =
    let insn = JumpIf width condition dst src offset in
    let compares : ComparesNumbers d dst src = record {
      first = read_number program place insn d dst is.common written listed.0 (inl refl);
      second = read_operand program place insn d src is.common written listed.1 (λ reg same. inr same);
    } in
    record {
      common = known_on program place to insn d there step (λ reg. refl) (λ at. refl) (compared_keeps d there (leaves.numbers compares).0) is.common;
      held = (leaves.numbers compares).1 ∙ is.held;
    }
list_follows program place end to (Load form dst src offset) way d there listed written step leaves is = record {
  common = number_on program place to (Load form dst src offset) dst d there step (λ reg apart. apart) (λ at. refl) listed.0 leaves.only leaves.number is.common;
  held = leaves.only.held ∙ is.held;
}
list_follows program place end to (Store size dst src offset) way d there listed written step leaves is =
    let bytes : ℕ = byte_len (store_width size) in
    let by_frame_pointer : LeavesStored d R10 offset bytes there = subst (λ (reg : Reg). LeavesStored d reg offset bytes there) listed.1 leaves in
    record {
      common = stored_on program place to (Store size dst src offset) d there offset bytes step (λ reg. refl)
          (λ at yes. let parts = and_parts _ _ yes in (leb-true _ _ parts.0, ltb-true _ _ parts.1)) by_frame_pointer is.common;
      held = leaves.held ∙ is.held;
    }
list_follows program place end to (Jump distance) way d there listed written step leaves is = absurd listed
list_follows program place end to (LoadImmediate dst value) way d there listed written step leaves is = absurd listed
list_follows program place end to (Call callee) way d there listed written step leaves is = absurd listed
list_follows program place end to Exit way d there listed written step leaves is = absurd listed
