use Rattle.std.proofs.Common.{◌≡◌, ℕ, List, Option, None, length, ap, sym, ◌∙◌}
use Rattle.std.specs.Prelude.{slice_set}
use Rattle.bpf_machine.proofs.RegisterLists.{answered_is, count_kept}
use Rattle.bpf_machine.proofs.registers.Registers.answer.Goals as goal

pub returns : goal.returns
returns c =
    let long : length c.args.self.now ≡ 11 = ap (λ (rs : List (Option ℕ)). length rs) (sym c.self.view_is) ∙ count_kept c.self.inside.words c.self.inside.written c.self.invariant in
    let unwritten : (k : ℕ) → List (Option ℕ) → List (Option ℕ) = λ k rs. slice_set rs k None in
    c.clear-5.ensures
    ∙ (ap (unwritten 5) c.clear-4.ensures
    ∙ (ap (λ rs. unwritten 5 (unwritten 4 rs)) c.clear-3.ensures
    ∙ (ap (λ rs. unwritten 5 (unwritten 4 (unwritten 3 rs))) c.clear-2.ensures
    ∙ (ap (λ rs. unwritten 5 (unwritten 4 (unwritten 3 (unwritten 2 rs)))) c.clear.ensures
    ∙ (ap (λ rs. unwritten 5 (unwritten 4 (unwritten 3 (unwritten 2 (unwritten 1 rs))))) c.set.ensures
    ∙ answered_is c.args.self.now c.args.r0 long)))))
