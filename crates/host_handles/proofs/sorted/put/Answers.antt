use Rattle.std.proofs.Common.{◌≡◌, ◌∷◌, List, rules, subst, sym}
use Rattle.std.specs.List.{insert}
use Rattle.std.specs.List.Sorted.{IsPermutation}
use Rattle.std.proofs.lemmas.List.Sorted.{IsPermutation-insert, IsPermutation-sym}
use Rattle.host_handles.proofs.sorted.put.Goals as goal

pub returns-clause-put : goal.returns-clause-put
returns-clause-put g c =
    let xs = c.args.all.now.items in
    let place = c.place_for-place.result in
    let is : c.insert.new.self.items ≡ insert xs place c.args.it = search rules in
    subst (λ ys. IsPermutation ys (c.args.it ∷ xs)) (sym is) (IsPermutation-sym (c.args.it ∷ xs) (insert xs place c.args.it) (IsPermutation-insert xs place c.args.it))
