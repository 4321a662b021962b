-- What an order knows of the lines that it took decides which line may come next, and whether they are a list in order.
use Rattle.std.proofs.Common.{◌≡◌, ◌↔◌, ◌++◌, Bool, true, Option, Some, None, List, [], ◌∷◌, refl, sym, ap, ◌∙◌, subst}
use Rattle.world_calls.specs.declared.carried_line.CarriedLine.{CarriedLine}
use Rattle.world_calls.specs.declared.carried_line.CarriedLine.TheVariants as lines
use Rattle.carried_lines.specs.InOrder.{AreInOrder, IsFront}
use Rattle.carried_lines.specs.Following.{HasTaken, is_complete, is_next, last_of, may_follow}
use Rattle.carried_lines.specs.declared.order.Order.{Order}
use Rattle.carried_lines.proofs.Chains.{Follow, last_of_all, both_follow, rest_follows, front_of_follows, in_order_follows}
use Rattle.carried_lines.proofs.Begins.{complete_in_order, follows_front}

last_push : (taken : List CarriedLine) (line : CarriedLine) → last_of (taken ++ line ∷ []) ≡ Some line
last_push [] line = refl
last_push (first ∷ []) line = refl
last_push (first ∷ next ∷ more) line = last_push (next ∷ more) line

module _ (taken : List CarriedLine) (order : Order) (has : HasTaken taken order) where
  next_follows : (line : CarriedLine) → may_follow order.last line ≡ true → IsFront (taken ++ line ∷ [])
  next_follows line h =
      let here : may_follow (last_of taken) line ≡ true = ap (λ (last : Option CarriedLine). may_follow last line) (sym has.last) ∙ h in
      let more : Follow (last_of taken) (line ∷ []) = (here, tt) in
      follows_front (taken ++ line ∷ []) (both_follow None taken (line ∷ []) (front_of_follows taken has.front) (subst (λ last. Follow last (line ∷ [])) (sym (last_of_all taken)) more))

  follows_next : (line : CarriedLine) → IsFront (taken ++ line ∷ []) → may_follow order.last line ≡ true
  follows_next line front =
      let more = rest_follows None taken (line ∷ []) (front_of_follows (taken ++ line ∷ []) front) in
      ap (λ (last : Option CarriedLine). may_follow last line) (has.last ∙ sym (last_of_all taken)) ∙ more.0

  pub accepts : (line : CarriedLine) (result : Bool) → result ≡ may_follow order.last line → (result ≡ true) ↔ IsFront (taken ++ line ∷ [])
  accepts line result e = (λ is_so. next_follows line (sym e ∙ is_so), λ front. e ∙ follows_next line front)

  pub one_taken : (line : CarriedLine) (result : Bool) → result ≡ may_follow order.last line → result ≡ true → HasTaken (taken ++ line ∷ []) (record { last = Some line })
  one_taken line result e is_so = record { front = next_follows line (sym e ∙ is_so); last = sym (last_push taken line) }

-- ---- complete lists

is_no_first : (last line : CarriedLine) → is_next last line ≡ true → is_complete (Some line) ≡ true
unfolding is_next
is_no_first last (lines.Numbers ccb freeze run) h = absurd cc
is_no_first last line h = refl

stays_complete : (last : CarriedLine) (more : List CarriedLine) → is_complete (Some last) ≡ true → Follow (Some last) more → is_complete (last_of (last ∷ more)) ≡ true
stays_complete last [] e h = e
stays_complete last (line ∷ more) e h = stays_complete line more (is_no_first last line h.0) h.1

in_order_complete : (all : List CarriedLine) → AreInOrder all → is_complete (last_of all) ≡ true
in_order_complete [] is = absurd (let none = is.whole in cc)
in_order_complete (first ∷ []) is = absurd (let none = is.whole in cc)
in_order_complete (first ∷ second ∷ more) is =
    let clock : second ≡ lines.Clock is.reading = let whole = is.whole in cc in
    let follow = in_order_follows (first ∷ second ∷ more) is in
    stays_complete second more (ap (λ (line : CarriedLine). is_complete (Some line)) clock) follow.1.1

pub completes : (taken : List CarriedLine) (order : Order) → HasTaken taken order → (result : Bool) → result ≡ is_complete order.last → (result ≡ true) ↔ AreInOrder taken
completes taken order has result e =
    let same : result ≡ is_complete (last_of taken) = e ∙ ap is_complete has.last in
    (λ is_so. complete_in_order taken (front_of_follows taken has.front) (sym same ∙ is_so), λ is. same ∙ in_order_complete taken is)

-- before the first line
pub none_taken : HasTaken [] (record { last = None })
none_taken = record { front = follows_front [] tt; last = refl }
