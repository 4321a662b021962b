use Rattle.std.proofs.Common.{◌≡◌, ◌∷◌, ◌∙◌, List, get_or, length, ◌<◌, not, IsSome, IfSome, Option, Some, None, IsPermutation, heap_items, filter, refl, sym, subst, rules, arith}
use Rattle.std.proofs.lemmas.Fn.{filter_same}
use Rattle.std.proofs.lemmas.List.{get_or_default}
use Rattle.std.proofs.lemmas.List.Sorted.{IsPermutation-sym, IsPermutation-trans, IsPermutation-cons}
use Rattle.std.specs.declared.cmp.Reverse.{Reverse}
use Rattle.freeze_ledger.specs.declared.deadline.Deadline.{Deadline}
use Rattle.freeze_ledger.specs.Index.{turned, under}
use Rattle.freeze_ledger.proofs.Index.{same_under, taken_out}
use Rattle.freeze_ledger.proofs.deadlines.Deadlines.remove.Goals as goal

-- what a pop gave is the one at the front
popped : (old new : List (Reverse Deadline)) (r : Option (Reverse Deadline)) (it : Reverse Deadline) → IsSome r → IfSome r (λ (x : Reverse Deadline). x ≡ get_or old 0 x) → IfSome r (λ (x : Reverse Deadline). IsPermutation old (x ∷ new)) → 0 < length old → get_or old 0 it ≡ it → IsPermutation old (it ∷ new)
popped old new None it is top moved l front = absurd (cc is)
popped old new (Some x) it is top moved l front =
    let same : x ≡ it = top ∙ (get_or_default old 0 x it l ∙ front) in
    subst (λ (y : Reverse Deadline). IsPermutation old (y ∷ new)) same moved

pub returns-in-Some : goal.returns-in-Some
returns-in-Some c =
    let old : List (Reverse Deadline) = c.args.self.now in
    let inside : List (Reverse Deadline) = heap_items c.self.inside.heap in
    let it : Reverse Deadline = turned c.args.deadline in
    let first : Reverse Deadline = turned c.in-Some.first in
    let front = c.in-Some.ensures.front in
    let same : first ≡ it = same_under c.args.deadline.key old first it (0, front.0, front.1) c.requires.there c.if-first-key.true refl c.requires.alone in
    let there : get_or old 0 it ≡ it = subst (λ (x : Reverse Deadline). get_or old 0 x ≡ x) same front.1 in
    let there_inside : get_or inside 0 it ≡ it = subst (λ (xs : List (Reverse Deadline)). get_or xs 0 it ≡ it) (sym c.self.view_is) there in
    let some : 0 < length inside = subst (λ (xs : List (Reverse Deadline)). 0 < length xs) (sym c.self.view_is) front.0 in
    let is : IsSome c.pop-first.result = c.pop-first.ensures.variant.1 (omega (arith, some, c.self.inside.heap.data.ok.0)) in
    let gone = popped inside (heap_items c.pop-first.new.self) c.pop-first.result it is c.pop-first.ensures.top c.pop-first.ensures.permutation some there_inside in
    IsPermutation-sym _ _ (subst (λ (xs : List (Reverse Deadline)). IsPermutation xs (it ∷ heap_items c.pop-first.new.self)) c.self.view_is gone)

pub returns-in-Some-2 : goal.returns-in-Some-2
returns-in-Some-2 c =
    let old : List (Reverse Deadline) = c.args.self.now in
    let inside : List (Reverse Deadline) = heap_items c.self.inside.heap in
    let it : Reverse Deadline = turned c.args.deadline in
    let kept = filter_same _ (λ (y : Reverse Deadline). not (under c.args.deadline.key y)) _ (λ x r f k. search rules) _ _ c.retain.ensures.filtered.1 in
    let moved : IsPermutation (filter (λ (y : Reverse Deadline). not (under c.args.deadline.key y)) inside) (heap_items c.retain.new.self) = subst (λ (xs : List (Reverse Deadline)). IsPermutation xs (heap_items c.retain.new.self)) kept c.retain.ensures.filtered.2 in
    let out = taken_out c.args.deadline.key old it c.requires.there refl c.requires.alone in
    let out_inside : IsPermutation inside (it ∷ filter (λ (y : Reverse Deadline). not (under c.args.deadline.key y)) inside) = subst (λ (xs : List (Reverse Deadline)). IsPermutation xs (it ∷ filter (λ (y : Reverse Deadline). not (under c.args.deadline.key y)) xs)) (sym c.self.view_is) out in
    let whole = IsPermutation-trans _ _ _ out_inside (IsPermutation-cons it _ _ moved) in
    IsPermutation-sym _ _ (subst (λ (xs : List (Reverse Deadline)). IsPermutation xs (it ∷ heap_items c.retain.new.self)) c.self.view_is whole)
