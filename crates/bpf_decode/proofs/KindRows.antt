-- What follows from an instruction's kind: which of its fields are used, and that its fields are its row where no fault
-- holds of them.
use Rattle.std.proofs.Common.{ℕ, ap, ◌≡◌, ℤ, pos, ◌/◌, ◌%◌, ◌⊎◌, inl, inr, [], ◌∷◌, Bool, true, false, not, ◌&&◌, ◌||◌, ◌==◌, Option, Some, refl, sym, ◌∙◌, arith}
use Rattle.std.specs.Int.{w32}
use Rattle.std.specs.Int.RustNames.{FitsSigned}
use Rattle.std.specs.Ordering.{int_eq}
use Rattle.std.proofs.lemmas.Bool.{eqb-true, eqb-false, not-false, or_parts, and_parts, cases_Bool}
use Rattle.std.proofs.lemmas.Bool.Decides.{Decides-int_eq}
use Rattle.bpf_insn.specs.declared.reg.Reg.{Reg}
use Rattle.bpf_insn.specs.declared.insn.Insn.TheVariants.{Alu, JumpIf, LoadImmediate}
use Rattle.bpf_insn.specs.declared.insn.Width.{Width}
use Rattle.bpf_insn.specs.declared.insn.Width.TheVariants.{Bits32, Bits64}
use Rattle.bpf_insn.specs.declared.insn.AluOp.{AluOp}
use Rattle.bpf_insn.specs.declared.insn.AluOp.TheVariants.{Add}
use Rattle.bpf_insn.specs.declared.insn.Condition.{Condition}
use Rattle.bpf_insn.specs.declared.insn.Condition.TheVariants.{Equal}
use Rattle.bpf_insn.specs.Reg.{number_of}
use Rattle.bpf_insn.specs.Operations.{alu_code, alu_offset, condition_code}
use Rattle.bpf_decode.specs.declared.fields.Fields.{Fields}
use Rattle.bpf_decode.specs.declared.used.Used.{Used}
use Rattle.bpf_decode.specs.declared.kind.Kind.TheVariants as kinds
use Rattle.bpf_decode.specs.declared.transfer.Transfer.TheVariants.{Constant}
use Rattle.bpf_decode.specs.FieldTests.{class_in, code_in, takes_register, is_one_of, is_zero, is_arithmetic, is_division, is_register_move, is_sign_extension, is_byte_order, is_conditional, is_load_immediate, has_beside_imm, has_field_beside, has_unused_field, has_word_size, has_no_form, used}
use Rattle.bpf_decode.specs.Kinds.{IsKind, IsTransfer, IsSpelled, form_in, operand_in, word_of}
use Rattle.bpf_decode.specs.Spells.{row, opcode_of, alu_class, jump_class, source_of, src_of, imm_of}
use Rattle.bpf_decode.proofs.Words.{low_of_word, high_of_word, word_fits}

-- the tests on class and code, of arithmetic
is_alu : (f : Fields) (width : Width) (op : AluOp) → class_in f ≡ alu_class width → code_in f ≡ alu_code op → is_arithmetic f ≡ true
is_alu f Bits32 Add class code = rw (class, code) refl
is_alu f Bits32 op class code = rw (class, code) refl
is_alu f Bits64 Add class code = rw (class, code) refl
is_alu f Bits64 op class code = rw (class, code) refl

-- the same of a conditional jump
is_jump : (f : Fields) (width : Width) (condition : Condition) → class_in f ≡ jump_class width → code_in f ≡ condition_code condition → (is_arithmetic f ≡ false) × (is_conditional f ≡ true)
is_jump f Bits32 Equal class code = (rw class refl, rw (class, code) refl)
is_jump f Bits32 condition class code = (rw class refl, rw (class, code) refl)
is_jump f Bits64 Equal class code = (rw class refl, rw (class, code) refl)
is_jump f Bits64 condition class code = (rw class refl, rw (class, code) refl)

four_parts : (a b c d : Bool) → (a || b || c || d) ≡ false → (a ≡ false) × (b ≡ false) × (c ≡ false) × (d ≡ false)
four_parts true b c d h = absurd cc
four_parts false true c d h = absurd cc
four_parts false false true d h = absurd cc
four_parts false false false d h = (refl, refl, refl, h)

-- no field that is not among these is told from zero
abbrev NoneBeside : Used → Fields → Type 0
NoneBeside u f =
    ((not u.dst && not (f.dst == 0)) ≡ false) × ((not u.src && not (f.src == 0)) ≡ false)
    × ((not u.offset && not (is_zero f.offset)) ≡ false) × ((not u.imm && not (is_zero f.imm)) ≡ false)

none_beside : (f : Fields) (behind : Option Fields) (u : Used) → used f ≡ u → has_unused_field f behind ≡ false → NoneBeside u f
none_beside f behind u is unused =
    let beside : has_field_beside u f ≡ false =
    sym (ap (λ (v : Used). has_field_beside v f) is) ∙ (or_parts (has_field_beside (used f) f) (is_load_immediate f && has_beside_imm behind) unused).0 in
    four_parts (not u.dst && not (f.dst == 0)) (not u.src && not (f.src == 0)) (not u.offset && not (is_zero f.offset)) (not u.imm && not (is_zero f.imm)) beside

-- what an instruction uses: arithmetic, a conditional jump, a 64-bit constant
abbrev by_alu : Fields → Used
by_alu f = record { dst = true; src = takes_register f; offset = is_division f || is_register_move f; imm = not (takes_register f) }

abbrev by_jump : Fields → Used
by_jump f = record { dst = true; src = takes_register f; offset = true; imm = not (takes_register f) }

abbrev by_constant : Used
by_constant = record { dst = true; src = false; offset = false; imm = true }

is_0 : (z : ℤ) → is_zero z ≡ true → z ≡ pos 0
is_0 z h = (Decides-int_eq z (pos 0)).0 h

-- the second operand is spelled by the source bit, src and imm
operand_when : (f : Fields) (src : Reg) → number_of src ≡ f.src → NoneBeside (by_jump f) f → (takes_register f ≡ true) ⊎ (takes_register f ≡ false)
    → (f.opcode / 8 % 2 ≡ source_of (operand_in f src)) × (f.src ≡ src_of (operand_in f src)) × (f.imm ≡ imm_of (operand_in f src))
operand_when f src named other (inl e) = rw e (eqb-true _ _ e, sym named, is_0 f.imm (not-false _ (rw e at other.3)))
operand_when f src named other (inr e) =
    let zero_bit : f.opcode / 8 % 2 ≡ 0 = omega (arith, eqb-false (f.opcode / 8 % 2) 1 e) in
    rw e (zero_bit, eqb-true _ _ (not-false _ (rw e at other.1)), refl)

-- An offset that is used where it is not zero, and selects a form, is that of the form.
form_when : (division signed zero_offset move extends order : Bool)
    → (not (division || move) && not zero_offset) ≡ false
    → ((division && not (zero_offset || signed)) || (move && not (zero_offset || extends)) || order) ≡ false
    → extends ≡ false → (division && signed) ≡ false → zero_offset ≡ true
form_when division signed true move extends order h k e d = refl
form_when true true false move extends order h k e d = cc
form_when true false false move extends order h k e d = cc
form_when false signed false true true order h k e d = cc
form_when false signed false true false order h k e d = cc
form_when false signed false false extends order h k e d = cc

form_is : (f : Fields) → is_arithmetic f ≡ true → (not (is_division f || is_register_move f) && not (is_zero f.offset)) ≡ false → has_no_form f ≡ false → is_sign_extension f ≡ false
    → ((is_one_of (code_in f) (0x3 ∷ 0x9 ∷ []) && int_eq f.offset (pos 1)) ≡ true) ⊎ ((is_one_of (code_in f) (0x3 ∷ 0x9 ∷ []) && int_eq f.offset (pos 1)) ≡ false)
    → f.offset ≡ form_in (code_in f) f.offset
form_is f arithmetic unused form extends (inl e) = rw e ((Decides-int_eq f.offset (pos 1)).0 (and_parts _ _ e).1)
form_is f arithmetic unused form extends (inr e) =
    let plain : (is_division f && int_eq f.offset (pos 1)) ≡ false = rw arithmetic e in
    rw e (is_0 f.offset (form_when (is_division f) (int_eq f.offset (pos 1)) (is_zero f.offset) (is_register_move f) (is_sign_extension f) (is_byte_order f && not (has_word_size f)) unused form extends plain))

pub alu_row : (f : Fields) (behind : Option Fields) (width : Width) (op : AluOp) (dst src : Reg) → IsKind f (kinds.Alu width op)
    → number_of dst ≡ f.dst → number_of src ≡ f.src → has_unused_field f behind ≡ false → has_no_form f ≡ false → f ≡ row (Alu width op dst (operand_in f src))
alu_row f behind width op dst src kind dst_is src_is unused form =
    let class : f.opcode % 8 ≡ alu_class width = kind.0 in
    let code : f.opcode / 16 ≡ alu_code op = kind.1 in
    let alu = is_alu f width op class code in
    let uses : used f ≡ by_alu f = rw alu refl in
    let beside = none_beside f behind (by_alu f) uses unused in
    let operand = operand_when f src src_is (beside.0, beside.1, refl, beside.3) (cases_Bool (takes_register f)) in
    let opcode : f.opcode ≡ opcode_of (alu_code op) (source_of (operand_in f src)) (alu_class width) = omega (arith, operand.0) in
    let offset : f.offset ≡ alu_offset op = form_is f alu beside.2 form kind.3 (cases_Bool _) ∙ sym kind.2 in
    λ i. record { opcode = opcode i; dst = sym dst_is i; src = operand.1 i; offset = offset i; imm = operand.2 i }

pub jump_row : (f : Fields) (behind : Option Fields) (width : Width) (condition : Condition) (dst src : Reg) → IsKind f (kinds.JumpIf width condition)
    → number_of dst ≡ f.dst → number_of src ≡ f.src → has_unused_field f behind ≡ false → f ≡ row (JumpIf width condition dst (operand_in f src) f.offset)
jump_row f behind width condition dst src kind dst_is src_is unused =
    let class : f.opcode % 8 ≡ jump_class width = kind.0 in
    let code : f.opcode / 16 ≡ condition_code condition = kind.1 in
    let tests = is_jump f width condition class code in
    let uses : used f ≡ by_jump f = rw (tests.0, tests.1) refl in
    let operand = operand_when f src src_is (none_beside f behind (by_jump f) uses unused) (cases_Bool (takes_register f)) in
    let opcode : f.opcode ≡ opcode_of (condition_code condition) (source_of (operand_in f src)) (jump_class width) = omega (arith, operand.0) in
    λ i. record { opcode = opcode i; dst = sym dst_is i; src = operand.1 i; offset = f.offset; imm = operand.2 i }

-- a number that is not told from 0 is 0
zero_is : (n : ℕ) → not (n == 0) ≡ false → n ≡ 0
zero_is n h = eqb-true n 0 (not-false (n == 0) h)

zero_int_is : (z : ℤ) → not (is_zero z) ≡ false → z ≡ pos 0
zero_int_is z h = is_0 z (not-false (is_zero z) h)

-- a second slot that has nothing beside imm
only_imm : (second : Fields) → has_beside_imm (Some second) ≡ false → second ≡ record { opcode = 0; dst = 0; src = 0; offset = pos 0; imm = second.imm }
only_imm second h =
    let parts = four_parts (not (second.opcode == 0)) (not (second.dst == 0)) (not (second.src == 0)) (not (is_zero second.offset)) h in
    let opcode = zero_is second.opcode parts.0 in
    let dst = zero_is second.dst parts.1 in
    let src = zero_is second.src parts.2 in
    let offset = zero_int_is second.offset parts.3 in
    λ i. record { opcode = opcode i; dst = dst i; src = src i; offset = offset i; imm = second.imm }

pub constant_rows : (f second : Fields) (dst : Reg) → IsTransfer f Constant → FitsSigned w32 f.imm → FitsSigned w32 second.imm
    → number_of dst ≡ f.dst → has_unused_field f (Some second) ≡ false → IsSpelled f (Some second) (LoadImmediate dst (word_of f.imm second.imm))
constant_rows f second dst kind fits_low fits_high dst_is unused =
    let class : f.opcode % 8 ≡ 0 = kind.0 in
    let mode : f.opcode / 32 ≡ 0 = kind.1 in
    let size : f.opcode / 8 % 4 ≡ 3 = kind.2 in
    let opcode : f.opcode ≡ 0x18 = omega arith in
    let uses : used f ≡ by_constant = rw opcode (refl {a = by_constant}) in
    let beside = none_beside f (Some second) by_constant uses unused in
    let src = zero_is f.src beside.1 in
    let offset = zero_int_is f.offset beside.2 in
    let low = low_of_word f.imm second.imm fits_low in
    let high = high_of_word f.imm second.imm fits_low fits_high in
    let blank : has_beside_imm (Some second) ≡ false = rw opcode at (or_parts (has_field_beside (used f) f) (is_load_immediate f && has_beside_imm (Some second)) unused).1 in
    let behind = only_imm second blank in (
      (λ i. record { opcode = opcode i; dst = sym dst_is i; src = src i; offset = offset i; imm = sym low i }),
      ap Some (behind ∙ (λ i. record { opcode = 0; dst = 0; src = 0; offset = pos 0; imm = sym high i })),
      word_fits f.imm second.imm fits_low fits_high,
    )
