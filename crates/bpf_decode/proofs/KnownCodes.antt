-- Which codes have an operation or a condition.
use Rattle.std.proofs.Common.{◌≡◌, ℕ, ℤ, pos, zero, suc, Bool, true, false, not, ◌&&◌, ◌==◌, Option, refl, ap, ◌∙◌, if◌then◌else◌, ◌<◌, arith}
use Rattle.std.specs.Prelude.{nat_le, is_some}
use Rattle.std.specs.Ordering.{int_eq}
use Rattle.std.proofs.lemmas.Bool.{ne_eqb, le-leb, lt-leb}
use Rattle.bpf_insn.specs.declared.insn.AluOp.{AluOp}
use Rattle.bpf_insn.specs.declared.insn.Condition.{Condition}
use Rattle.bpf_insn.specs.Operations.{alu_of_form, condition_of_code}
use Rattle.bpf_decode.specs.Kinds.{form_in}

abbrev HasOp : ℕ → ℤ → Type 0
HasOp code offset = is_some (alu_of_form code (form_in code offset)) ≡ (nat_le code 0xc && not (code == 0x8))

abbrev HasCondition : ℕ → Type 0
HasCondition code = is_some (condition_of_code code) ≡ (nat_le 0x1 code && nat_le code 0xd && not (code == 0x8) && not (code == 0x9))

-- a division has an operation for either offset
division : (code : ℕ) (offset : ℤ) → is_some (alu_of_form code (pos 0)) ≡ true → is_some (alu_of_form code (pos 1)) ≡ true → (b : Bool) → is_some (alu_of_form code (if b then pos 1 else pos 0)) ≡ true
division code offset h k true = k
division code offset h k false = h

-- none is above them
differs : (code n : ℕ) → n < code → (code == n) ≡ false
differs code n above = ne_eqb code n (λ e. omega (arith, e))

no_op : (code : ℕ) (offset : ℤ) → 0xd < code → HasOp code offset
unfolding alu_of_form
no_op code offset above =
    rw (differs code 0x0 (omega arith), differs code 0x1 (omega arith), differs code 0x2 (omega arith), differs code 0x3 (omega arith), differs code 0x4 (omega arith), differs code 0x5 (omega arith), differs code 0x6 (omega arith), differs code 0x7 (omega arith), differs code 0x9 (omega arith), differs code 0xa (omega arith), differs code 0xb (omega arith), differs code 0xc (omega arith), lt-leb code 0xc (omega arith)) refl

no_condition : (code : ℕ) → 0xd < code → HasCondition code
unfolding condition_of_code
no_condition code above =
    rw (differs code 0x1 (omega arith), differs code 0x2 (omega arith), differs code 0x3 (omega arith), differs code 0x4 (omega arith), differs code 0x5 (omega arith), differs code 0x6 (omega arith), differs code 0x7 (omega arith), differs code 0xa (omega arith), differs code 0xb (omega arith), differs code 0xc (omega arith), differs code 0xd (omega arith), le-leb 0x1 code (omega arith), lt-leb code 0xd above) refl

op_codes : (code : ℕ) (offset : ℤ) → HasOp code offset
unfolding alu_of_form
op_codes zero offset = refl
op_codes (suc zero) offset = refl
op_codes (suc (suc zero)) offset = refl
op_codes (suc (suc (suc zero))) offset = division 3 offset refl refl (int_eq offset (pos 1))
op_codes (suc (suc (suc (suc zero)))) offset = refl
op_codes (suc (suc (suc (suc (suc zero))))) offset = refl
op_codes (suc (suc (suc (suc (suc (suc zero)))))) offset = refl
op_codes (suc (suc (suc (suc (suc (suc (suc zero))))))) offset = refl
op_codes (suc (suc (suc (suc (suc (suc (suc (suc zero)))))))) offset = refl
op_codes (suc (suc (suc (suc (suc (suc (suc (suc (suc zero))))))))) offset = division 9 offset refl refl (int_eq offset (pos 1))
op_codes (suc (suc (suc (suc (suc (suc (suc (suc (suc (suc zero)))))))))) offset = refl
op_codes (suc (suc (suc (suc (suc (suc (suc (suc (suc (suc (suc zero))))))))))) offset = refl
op_codes (suc (suc (suc (suc (suc (suc (suc (suc (suc (suc (suc (suc zero)))))))))))) offset = refl
op_codes (suc (suc (suc (suc (suc (suc (suc (suc (suc (suc (suc (suc (suc zero))))))))))))) offset = refl
op_codes (suc (suc (suc (suc (suc (suc (suc (suc (suc (suc (suc (suc (suc (suc code)))))))))))))) offset = no_op (suc (suc (suc (suc (suc (suc (suc (suc (suc (suc (suc (suc (suc (suc code)))))))))))))) offset (omega arith)

condition_codes : (code : ℕ) → HasCondition code
unfolding condition_of_code
condition_codes zero = refl
condition_codes (suc zero) = refl
condition_codes (suc (suc zero)) = refl
condition_codes (suc (suc (suc zero))) = refl
condition_codes (suc (suc (suc (suc zero)))) = refl
condition_codes (suc (suc (suc (suc (suc zero))))) = refl
condition_codes (suc (suc (suc (suc (suc (suc zero)))))) = refl
condition_codes (suc (suc (suc (suc (suc (suc (suc zero))))))) = refl
condition_codes (suc (suc (suc (suc (suc (suc (suc (suc zero)))))))) = refl
condition_codes (suc (suc (suc (suc (suc (suc (suc (suc (suc zero))))))))) = refl
condition_codes (suc (suc (suc (suc (suc (suc (suc (suc (suc (suc zero)))))))))) = refl
condition_codes (suc (suc (suc (suc (suc (suc (suc (suc (suc (suc (suc zero))))))))))) = refl
condition_codes (suc (suc (suc (suc (suc (suc (suc (suc (suc (suc (suc (suc zero)))))))))))) = refl
condition_codes (suc (suc (suc (suc (suc (suc (suc (suc (suc (suc (suc (suc (suc zero))))))))))))) = refl
condition_codes (suc (suc (suc (suc (suc (suc (suc (suc (suc (suc (suc (suc (suc (suc code)))))))))))))) = no_condition (suc (suc (suc (suc (suc (suc (suc (suc (suc (suc (suc (suc (suc (suc code)))))))))))))) (omega arith)

pub known_op : (code : ℕ) (offset form : ℤ) (r : Option AluOp) → r ≡ alu_of_form code form → form ≡ form_in code offset → is_some r ≡ (nat_le code 0xc && not (code == 0x8))
known_op code offset form r is f = ap is_some (is ∙ ap (alu_of_form code) f) ∙ op_codes code offset

pub known_condition : (code : ℕ) (r : Option Condition) → r ≡ condition_of_code code → is_some r ≡ (nat_le 0x1 code && nat_le code 0xd && not (code == 0x8) && not (code == 0x9))
known_condition code r is = ap is_some is ∙ condition_codes code
