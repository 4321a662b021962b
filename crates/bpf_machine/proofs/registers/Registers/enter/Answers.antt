use Rattle.std.proofs.Common.{◌≡◌, ℕ, List, Option, Some, None, length, ap, sym, ◌∙◌}
use Rattle.std.specs.Prelude.{slice_set}
use Rattle.bpf_machine.proofs.RegisterLists.{count_kept, entered_is}
use Rattle.bpf_machine.proofs.registers.Registers.enter.Goals as goal

pub returns : goal.returns
returns c =
    let long : length c.args.self.now ≡ 11 = ap (λ (rs : List (Option ℕ)). length rs) (sym c.self.view_is) ∙ count_kept c.self.inside.words c.self.inside.written c.self.invariant in
    let unwritten : (k : ℕ) → List (Option ℕ) → List (Option ℕ) = λ k rs. slice_set rs k None in
    let last : List (Option ℕ) → List (Option ℕ) = λ rs. slice_set rs 10 (Some c.args.frame_pointer) in
    c.set.ensures
    ∙ (ap last c.clear-5.ensures
    ∙ (ap (λ rs. last (unwritten 9 rs)) c.clear-4.ensures
    ∙ (ap (λ rs. last (unwritten 9 (unwritten 8 rs))) c.clear-3.ensures
    ∙ (ap (λ rs. last (unwritten 9 (unwritten 8 (unwritten 7 rs)))) c.clear-2.ensures
    ∙ (ap (λ rs. last (unwritten 9 (unwritten 8 (unwritten 7 (unwritten 6 rs))))) c.clear.ensures
    ∙ entered_is c.args.self.now (Some c.args.frame_pointer) long)))))
