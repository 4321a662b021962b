use Rattle.std.proofs.Common.{◌≡◌, ◌<◌, ◌≤◌, ◌∷◌, List, get_or, length, refl, ap, subst, sym, ◌∙◌, arith, rules}
use Rattle.std.specs.List.{AllWithin, remove}
use Rattle.std.specs.List.Sorted.{IsNonDecreasingBy, IsPermutation}
use Rattle.std.proofs.lemmas.List.{get_or_default}
use Rattle.std.proofs.lemmas.List.Sorted.{IsPermutation-remove}
use Rattle.host_handles.proofs.InOrder.{none_there, removed_sorted}
use Rattle.host_handles.proofs.sorted.take.Goals as goal
use Rattle.host_handles.proofs.sorted.take.Goals.{else-place-len-via-then-place-len+else-number, else-place-len-via-else-place-len}

pub returns-then-number-clause-taken : goal.returns-then-number-clause-taken
returns-then-number-clause-taken g c =
    let xs = c.args.all.now.items in
    let place = c.place_for-place.result in
    let within : place < length xs = search rules in
    let taken : c.remove.result ≡ get_or xs place c.remove.result = search rules in
    let named : g.T.Numbered.number_of (get_or xs place c.index.result.now) ≡ c.args.number = ap g.T.Numbered.number_of (sym c.index.ensures) ∙ (sym c.number.ensures ∙ c.if-number.true) in (
      ap g.T.Numbered.number_of (taken ∙ get_or_default xs place c.remove.result c.index.result.now within) ∙ named,
      subst (λ ys. IsPermutation xs (c.remove.result ∷ ys)) (sym c.remove.ensures.items) (IsPermutation-remove xs place c.remove.result within taken),
    )

pub returns-then-number-clause-sorted : goal.returns-then-number-clause-sorted
returns-then-number-clause-sorted g c =
    let xs = c.args.all.now.items in
    let place = c.place_for-place.result in
    let within : place < length xs = search rules in
    subst (IsNonDecreasingBy g.T.Numbered.number_of) (sym c.remove.ensures.items) (removed_sorted g.T.Numbered.number_of xs place within c.requires)

pub returns-else-place-len-clause-none : goal.returns-else-place-len-clause-none
returns-else-place-len-clause-none g c =
    let xs = c.args.all.now.items in
    let place = c.place_for-place.result in
    let lower : AllWithin (λ it. g.T.Numbered.number_of it < c.args.number) xs 0 place = rw (← c.deref.ensures.value) c.place_for-place.ensures.lower in
    let others : AllWithin (λ it. c.args.number ≤ g.T.Numbered.number_of it) xs place (length xs) = rw (← c.deref.ensures.value) c.place_for-place.ensures.others in (
      refl,
      none_there g.T.Numbered.number_of xs place c.args.number lower others c.requires
          (λ d l e. elim c.else-place-len.branch [
            | else-place-len-via-then-place-len+else-number w ↦
                w.if-number.false (w.number.ensures ∙ (ap g.T.Numbered.number_of (w.index.ensures ∙ get_or_default xs place w.index.result.now d l) ∙ e))
            | else-place-len-via-else-place-len w ↦ omega (arith, w.if-place-len.false, c.len.ensures, l)
          ]),
    )
