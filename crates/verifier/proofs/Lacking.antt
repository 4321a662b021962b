-- Where it is enough everywhere: the entry arrives, and no function is called.
use Rattle.std.proofs.Common.{◌≡◌, ℕ, zero, suc, ◌+◌, List, Some, None, sym, subst, ◌∙◌, arith}
use Rattle.bpf_insn.specs.declared.insn.Insn.{Insn}
use Rattle.bpf_insn.specs.declared.program.Slot.{Slot}
use Rattle.bpf_insn.specs.Program.{insn_at}
use Rattle.call_shape.specs.Calls.{callee_in}
use Rattle.check_description.specs.declared.description.Description.{Description}
use Rattle.check_description.specs.declared.saved.SavedRegisters.{SavedRegisters}
use Rattle.reg_domain.specs.Enough.{Enough, IsEntryKnown}
use Rattle.verifier.specs.Arrives.{AllArrive, Arrives, IsNeverLacking, enters}
use Rattle.verifier.specs.Table.{Table, described, IsFirstTable}
use Rattle.verifier.proofs.Joined.{same_description}
use Rattle.verifier.proofs.OnItsWay.{local_call}

pub first_arrives : (program : List Slot) (len : ℕ) (entry : Description) (table : Table) → IsFirstTable len entry table → IsEntryKnown entry → AllArrive program table
first_arrives program len entry table first known zero d there = subst (Arrives program 0) (same_description entry d (sym first.there ∙ there)) (enters entry known)
first_arrives program len entry table first known (suc k) d there = absurd (let bad : None ≡ Some d = sym (first.others (suc k) (omega arith)) ∙ there in cc)

pub never_calls : (program : List Slot) (callers : List SavedRegisters) (start : ℕ) (table : Table) (at : ℕ) (insn : Insn) (callee : ℕ) (d : Description) → IsNeverLacking program callers start → AllArrive program table → insn_at program (start + at) ≡ Some insn → callee_in (start + at) insn ≡ Some callee → described table at ≡ Some d → ⊥
never_calls program callers start table at insn callee d never all here leads there =
    let place : start + at ≡ at = omega (arith, never.first) in
    let enough = never.lacks_not.enough at insn d (all at d there) (subst (λ (k : ℕ). insn_at program k ≡ Some insn) place here) in
    subst (λ (i : Insn). Enough i d) (local_call (start + at) callee insn leads).1 enough
