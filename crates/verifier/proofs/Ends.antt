-- The end of a function, as it is found by what its places lead to.
use Rattle.std.proofs.Common.{◌≡◌, ℕ, ◌+◌, ◌<◌, ◌≤◌, List, Some, None, sym, subst, ◌∙◌, arith, inl, inr, ap}
use Rattle.std.proofs.lemmas.Bool.{cases_eq}
use Rattle.bpf_insn.specs.declared.insn.Insn.{Insn}
use Rattle.bpf_insn.specs.declared.program.Slot.{Slot}
use Rattle.bpf_insn.specs.Program.{insn_at}
use Rattle.verifier.specs.Function.{LeadsBelow}

leads_less : (place : ℕ) (insn : Insn) (end further : ℕ) → end ≤ further → LeadsBelow place insn end → LeadsBelow place insn further
leads_less place insn end further le below = record {
  goes_on = λ goes. let lt = below.goes_on goes in omega (arith, lt, le);
  jumps = λ to leads. let lt = below.jumps to leads in omega (arith, lt, le);
}

same_insn : (x y : Insn) → Some x ≡ Some y → x ≡ y
same_insn x y e = cc

-- with one place more
pub closed_more : (program : List Slot) (start place end further : ℕ) (insn : Insn) → insn_at program place ≡ Some insn → ((k : ℕ) (at : Insn) → start ≤ k → k < place → insn_at program k ≡ Some at → LeadsBelow k at end) → end ≤ further → LeadsBelow place insn further → (k : ℕ) (at : Insn) → start ≤ k → k < place + 1 → insn_at program k ≡ Some at → LeadsBelow k at further
closed_more program start place end further insn here closed le leads k at from lt there =
    elim (cases_eq k place) [
      | inl same ↦
          let is : insn ≡ at = same_insn insn at (sym here ∙ (sym (ap (insn_at program) same) ∙ there)) in
          subst (λ (n : ℕ). LeadsBelow n at further) (sym same) (subst (λ (i : Insn). LeadsBelow place i further) is leads)
      | inr apart ↦ leads_less k at end further le (closed k at from (omega (arith, lt, apart)) there)
    ]

-- or none there
pub closed_skip : (program : List Slot) (start place end : ℕ) → insn_at program place ≡ None → ((k : ℕ) (at : Insn) → start ≤ k → k < place → insn_at program k ≡ Some at → LeadsBelow k at end) → (k : ℕ) (at : Insn) → start ≤ k → k < place + 1 → insn_at program k ≡ Some at → LeadsBelow k at end
closed_skip program start place end none closed k at from lt there =
    elim (cases_eq k place) [
      | inl same ↦ absurd (let bad : None ≡ Some at = sym none ∙ (sym (ap (insn_at program) same) ∙ there) in cc)
      | inr apart ↦ closed k at from (omega (arith, lt, apart)) there
    ]
