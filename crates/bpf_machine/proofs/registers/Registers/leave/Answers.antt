use Rattle.std.proofs.Common.{◌≡◌, ℕ, List, Option, Some, None, length, ap, sym, ◌∙◌}
use Rattle.std.specs.Prelude.{slice_index_or, slice_set}
use Rattle.bpf_machine.proofs.RegisterLists.{count_kept, left_is}
use Rattle.bpf_machine.proofs.registers.Registers.leave.Goals as goal

pub returns : goal.returns
returns c =
    let rs = c.args.self.now in
    let saved = c.args.saved.now in
    let long : length rs ≡ 11 = ap (λ (rs : List (Option ℕ)). length rs) (sym c.self.view_is) ∙ count_kept c.self.inside.words c.self.inside.written c.self.invariant in
    let put : ℕ → ℕ → List (Option ℕ) → List (Option ℕ) = λ j k rs. slice_set rs j (slice_index_or saved k None) in
    let unwritten : (k : ℕ) → List (Option ℕ) → List (Option ℕ) = λ k rs. slice_set rs k None in
    let last : List (Option ℕ) → List (Option ℕ) = λ rs. slice_set rs 10 (Some c.args.frame_pointer) in
    let back : List (Option ℕ) → List (Option ℕ) = λ rs. last (put 9 3 (put 8 2 (put 7 1 (put 6 0 rs)))) in
    c.set.ensures
    ∙ (ap last c.put-4.ensures
    ∙ (ap (λ rs. last (put 9 3 rs)) c.put-3.ensures
    ∙ (ap (λ rs. last (put 9 3 (put 8 2 rs))) c.put-2.ensures
    ∙ (ap (λ rs. last (put 9 3 (put 8 2 (put 7 1 rs)))) c.put.ensures
    ∙ (ap back c.clear-5.ensures
    ∙ (ap (λ rs. back (unwritten 5 rs)) c.clear-4.ensures
    ∙ (ap (λ rs. back (unwritten 5 (unwritten 4 rs))) c.clear-3.ensures
    ∙ (ap (λ rs. back (unwritten 5 (unwritten 4 (unwritten 3 rs)))) c.clear-2.ensures
    ∙ (ap (λ rs. back (unwritten 5 (unwritten 4 (unwritten 3 (unwritten 2 rs))))) c.clear.ensures
    ∙ left_is rs saved (Some c.args.frame_pointer) long c.told-saved)))))))))
