-- Each operation and each condition is found by its row, and what is found has that row.
use Rattle.std.proofs.Common.{◌≡◌, ℕ, ℤ, Bool, true, false, ◌==◌, List, [], ◌∷◌, Option, Some, refl, ◌∙◌, subst, sym, if◌then◌else◌}
use Rattle.std.specs.Prelude.{IfSome, find}
use Rattle.std.specs.Ordering.{int_eq}
use Rattle.std.proofs.lemmas.Bool.{eqb-true, and_parts}
use Rattle.std.proofs.lemmas.Bool.Decides.{Decides-int_eq}
use Rattle.std.proofs.lemmas.Slice.Eq.{bytes_eq-Decides}
use Rattle.bpf_insn.specs.declared.insn.Width.{Width}
use Rattle.bpf_insn.specs.declared.insn.Width.TheVariants.{Bits32, Bits64}
use Rattle.bpf_insn.specs.declared.insn.AluOp.{AluOp}
use Rattle.bpf_insn.specs.declared.insn.AluOp.TheVariants.{Add}
use Rattle.bpf_insn.specs.declared.insn.Condition.{Condition}
use Rattle.bpf_insn.specs.declared.insn.Condition.TheVariants.{Equal}
use Rattle.bpf_insn.specs.declared.operation.TheConstants.{ALU_OPS, CONDITIONS}
use Rattle.bpf_insn.specs.Operations.{alu_code, alu_offset, alu_name, condition_code, jump_name, alu_of_form, alu_of_name, condition_of_code, condition_of_name}

-- A line for Add or Equal stands above one for all others, which is checked for each of them.
pub op_of_its_form : (op : AluOp) → alu_of_form (alu_code op) (alu_offset op) ≡ Some op
unfolding alu_of_form
op_of_its_form Add = refl
op_of_its_form op = refl

pub op_of_its_name : (width : Width) (op : AluOp) → alu_of_name width (alu_name width op) ≡ Some op
unfolding alu_of_name
op_of_its_name Bits32 Add = refl
op_of_its_name Bits32 op = refl
op_of_its_name Bits64 Add = refl
op_of_its_name Bits64 op = refl

pub condition_of_its_code : (condition : Condition) → condition_of_code (condition_code condition) ≡ Some condition
unfolding condition_of_code
condition_of_its_code Equal = refl
condition_of_its_code condition = refl

pub condition_of_its_name : (width : Width) (condition : Condition) → condition_of_name width (jump_name width condition) ≡ Some condition
unfolding condition_of_name
condition_of_its_name Bits32 Equal = refl
condition_of_its_name Bits32 condition = refl
condition_of_its_name Bits64 Equal = refl
condition_of_its_name Bits64 condition = refl

-- so nothing else is found
pub only_op_of_form : (code : ℕ) (offset : ℤ) (r : Option AluOp) → r ≡ alu_of_form code offset → (op : AluOp) → alu_code op ≡ code → alu_offset op ≡ offset → r ≡ Some op
only_op_of_form code offset r is op c o = is ∙ rw (← c, ← o) (op_of_its_form op)

pub only_op_of_name : (width : Width) (word : List ℕ) (r : Option AluOp) → r ≡ alu_of_name width word → (op : AluOp) → alu_name width op ≡ word → r ≡ Some op
only_op_of_name width word r is op name = is ∙ subst (λ (w : List ℕ). alu_of_name width w ≡ Some op) name (op_of_its_name width op)

pub only_condition_of_code : (code : ℕ) (r : Option Condition) → r ≡ condition_of_code code → (condition : Condition) → condition_code condition ≡ code → r ≡ Some condition
only_condition_of_code code r is condition c = is ∙ rw (← c) (condition_of_its_code condition)

pub only_condition_of_name : (width : Width) (word : List ℕ) (r : Option Condition) → r ≡ condition_of_name width word → (condition : Condition) → jump_name width condition ≡ word → r ≡ Some condition
only_condition_of_name width word r is condition name = is ∙ subst (λ (w : List ℕ). condition_of_name width w ≡ Some condition) name (condition_of_its_name width condition)

-- what is found passes the test
found_step : {A : Type 0} (P : A → Type 0) (x : A) (passes : Bool) (rest : Option A) → (passes ≡ true → P x) → IfSome rest P → IfSome (if passes then Some x else rest) P
found_step P x true rest here behind = here refl
found_step P x false rest here behind = behind

found : {A : Type 0} (test : A → Bool) (P : A → Type 0) → ((x : A) → test x ≡ true → P x) → (xs : List A) → IfSome (find test xs) P
found test P holds [] = tt
found test P holds (x ∷ xs) = found_step P x (test x) (find test xs) (holds x) (found test P holds xs)

pub found_op_of_form : (code : ℕ) (offset : ℤ) (r : Option AluOp) → r ≡ alu_of_form code offset → IfSome r (λ op. (alu_code op ≡ code) × (alu_offset op ≡ offset))
unfolding alu_of_form
found_op_of_form code offset r is =
    subst (λ (r : Option AluOp). IfSome r (λ op. (alu_code op ≡ code) × (alu_offset op ≡ offset))) (sym is)
    (found _ _ (λ op passes. let both = and_parts (code == alu_code op) (int_eq offset (alu_offset op)) passes in
    (sym (eqb-true code (alu_code op) both.0), sym ((Decides-int_eq offset (alu_offset op)).0 both.1))) ALU_OPS)

pub found_op_of_name : (width : Width) (word : List ℕ) (r : Option AluOp) → r ≡ alu_of_name width word → IfSome r (λ op. alu_name width op ≡ word)
unfolding alu_of_name
found_op_of_name width word r is =
    subst (λ (r : Option AluOp). IfSome r (λ op. alu_name width op ≡ word)) (sym is)
    (found _ _ (λ op passes. (bytes_eq-Decides (alu_name width op) word).0 passes) ALU_OPS)

pub found_condition_of_code : (code : ℕ) (r : Option Condition) → r ≡ condition_of_code code → IfSome r (λ condition. condition_code condition ≡ code)
unfolding condition_of_code
found_condition_of_code code r is =
    subst (λ (r : Option Condition). IfSome r (λ condition. condition_code condition ≡ code)) (sym is)
    (found _ _ (λ condition passes. sym (eqb-true code (condition_code condition) passes)) CONDITIONS)

pub found_condition_of_name : (width : Width) (word : List ℕ) (r : Option Condition) → r ≡ condition_of_name width word → IfSome r (λ condition. jump_name width condition ≡ word)
unfolding condition_of_name
found_condition_of_name width word r is =
    subst (λ (r : Option Condition). IfSome r (λ condition. jump_name width condition ≡ word)) (sym is)
    (found _ _ (λ condition passes. (bytes_eq-Decides (jump_name width condition) word).0 passes) CONDITIONS)
