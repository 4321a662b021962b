use Rattle.std.proofs.Common.{◌≡◌, ℕ, List, [], ◌∷◌, Option, length, ap, sym, ◌∙◌}
use Rattle.bpf_machine.proofs.RegisterLists.{count_kept, saved_is}
use Rattle.bpf_machine.proofs.registers.Registers.saved.Goals as goal

pub returns : goal.returns
returns c =
    let long : length c.args.self.now ≡ 11 = ap (λ (rs : List (Option ℕ)). length rs) (sym c.self.view_is) ∙ count_kept c.self.inside.words c.self.inside.written c.self.invariant in
    (λ i. c.get.ensures i ∷ c.get-2.ensures i ∷ c.get-3.ensures i ∷ c.get-4.ensures i ∷ []) ∙ saved_is c.args.self.now long
