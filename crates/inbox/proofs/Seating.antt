-- The seats of the queue: one that changes, one that is new, and how many are out.
use Rattle.std.proofs.Common.{◌≡◌, ◌≢◌, ℕ, zero, suc, ◌+◌, ◌<◌, ◌≤◌, ◌⊎◌, List, [], ◌∷◌, ◌++◌, length, set, sym, refl, ap, ◌∙◌, subst, inl, inr, ⊎_elim, arith}
use Rattle.std.specs.List.{sum_by, Contains}
use Rattle.std.proofs.lemmas.List.Sums.{sum_by-cons}
use mathlib.Core.Option.{some, some-injective, some-ne-none}
use mathlib.Core.Logic.{dite}
use native.Mathlib.Decide.{ℕ_discrete}
use lib.ListN.{get_elem?}
use Rattle.crossbeam_queue.proofs.Lists.{at_set, set_here, set_else, at_longer}
use Rattle.inbox.specs.declared.account.View.{View}
use Rattle.inbox.specs.declared.account.Role.{Role}
use Rattle.inbox.specs.declared.account.Role.TheVariants.{Holder, Spent}
use Rattle.inbox.specs.Seats.{weight, weight_as, spent, numbers, IsAccounted, IsBack}

pub below : {A : Type 0} (l : List A) (j : ℕ) (a : A) → get_elem? l j ≡ some a → j < length l
below [] j a e = absurd (some-ne-none a (sym e))
below (x ∷ xs) zero a e = omega arith
below (x ∷ xs) (suc j) a e = let less : j < length xs = below xs j a e in omega arith

pub last_or_before : {A : Type 0} (l : List A) (a b : A) (j : ℕ) → get_elem? (l ++ a ∷ []) j ≡ some b → (get_elem? l j ≡ some b) ⊎ ((j ≡ length l) × (a ≡ b))
last_or_before [] a b zero e = inr (refl, some-injective a b e)
last_or_before [] a b (suc j) e = absurd (some-ne-none b (sym e))
last_or_before (x ∷ xs) a b zero e = inl e
last_or_before (x ∷ xs) a b (suc j) e = ⊎_elim (λ h. inl h) (λ h. inr (ap suc h.0, h.1)) (last_or_before xs a b j e)

pub single : {A : Type 0} (l : List A) (a : A) → length l ≡ 1 → get_elem? l 0 ≡ some a → l ≡ a ∷ []
single [] a one e = absurd (some-ne-none a (sym e))
single (x ∷ []) a one e = ap (λ y. y ∷ []) (some-injective x a e)
single (x ∷ y ∷ ys) a one e = absurd (omega arith)

-- a fact of each seat, after one has changed
pub each_set : (F : ℕ → View → Type 0) (views : List View) (seat : ℕ) (w : View) → F seat w → ((j : ℕ) (u : View) → j ≢ seat → get_elem? views j ≡ some u → F j u) → (j : ℕ) (u : View) → get_elem? (set views seat w) j ≡ some u → F j u
each_set F views seat w mine others j u e = ⊎_elim (λ (x : (j ≡ seat) × (w ≡ u)). subst (λ (y : ℕ × View). F y.0 y.1) (λ i. (sym x.0 i, x.1 i)) mine)
    (λ (x : (j ≢ seat) × (get_elem? views j ≡ some u)). others j u x.0 x.1) (at_set views seat j w u e)

-- how many passes all seats stand for, after one has changed
pub weight-set : (views : List View) (seat : ℕ) (v w : View) → get_elem? views seat ≡ some v → sum_by weight (set views seat w) + weight v ≡ sum_by weight views + weight w
weight-set [] seat v w at = absurd (some-ne-none v (sym at))
weight-set (x ∷ xs) zero v w at = let same : weight x ≡ weight v = ap weight (some-injective x v at) in omega (arith, sum_by-cons weight w xs, sum_by-cons weight x xs)
weight-set (x ∷ xs) (suc seat) v w at = let rest : sum_by weight (set xs seat w) + weight v ≡ sum_by weight xs + weight w = weight-set xs seat v w at in
    omega (arith, sum_by-cons weight x (set xs seat w), sum_by-cons weight x xs)

pub weight_there : (views : List View) (seat : ℕ) (v : View) → get_elem? views seat ≡ some v → weight v ≤ sum_by weight views
weight_there [] seat v at = absurd (some-ne-none v (sym at))
weight_there (x ∷ xs) zero v at = let same : weight x ≡ weight v = ap weight (some-injective x v at) in omega (arith, sum_by-cons weight x xs)
weight_there (x ∷ xs) (suc seat) v at = let rest : weight v ≤ sum_by weight xs = weight_there xs seat v at in omega (arith, sum_by-cons weight x xs)

-- a seat that stands for all passes is the only one that stands for any
pub only_holder : (views : List View) (seat j : ℕ) (v u : View) → get_elem? views seat ≡ some v → get_elem? views j ≡ some u → sum_by weight views ≤ weight v → j ≢ seat → u.role ≢ Holder
only_holder views seat j v u at there all apart role =
    let one : weight u ≡ length u.back + 1 = ap (λ (r : Role). weight_as r (length u.back)) role in
    let rest : weight u ≤ sum_by weight (set views seat spent) = weight_there (set views seat spent) j u (set_else views seat j spent apart ∙ there) in
    omega (arith, weight-set views seat v spent at)

-- a pass in place of itself, which took in no fewer
pub accounted_set : (views : List View) (n seat : ℕ) (v w : View) → get_elem? views seat ≡ some v → w.role ≡ Holder → (Contains (numbers (v.account ∷ v.back)) n → Contains (numbers (w.account ∷ w.back)) n) → IsAccounted views n → IsAccounted (set views seat w) n
accounted_set views n seat v w at role keeps (j, u, there, holder, has) =
    let less : seat < length views = below views seat v at in
    dite (ℕ_discrete j seat)
    (λ (here : j ≡ seat).
    let same : u ≡ v = some-injective u v (sym there ∙ ap (λ i. get_elem? views i) here ∙ at) in
    (seat, w, set_here views seat w less, role, keeps (subst (λ (x : View). Contains (numbers (x.account ∷ x.back)) n) same has)))
    (λ (apart : j ≢ seat). (j, u, set_else views seat j w apart ∙ there, holder, has))

-- a seat that is no pass's, in place of another
pub accounted_else : (views : List View) (n seat : ℕ) (v w : View) → get_elem? views seat ≡ some v → v.role ≢ Holder → IsAccounted views n → IsAccounted (set views seat w) n
accounted_else views n seat v w at role (j, u, there, holder, has) =
    let apart : j ≢ seat = λ same. role (ap (λ (x : View). x.role) (some-injective v u (sym at ∙ ap (λ i. get_elem? views i) (sym same) ∙ there)) ∙ holder) in
    (j, u, set_else views seat j w apart ∙ there, holder, has)

pub accounted_longer : (views more : List View) (n : ℕ) → IsAccounted views n → IsAccounted (views ++ more) n
accounted_longer views more n (j, u, there, holder, has) = (j, u, at_longer views more j u there, holder, has)

pub unspent : (v : View) → v.role ≡ Holder → v.role ≢ Spent
unspent v role gone = let clash : Holder ≡ Spent = sym role ∙ gone in (cc)

-- a seat that is used up is no pass's, and stays used up where a pass's seat changes, or one is used up, or there are more
pub back_set : (views : List View) (place seat : ℕ) (v w : View) → get_elem? views seat ≡ some v → v.role ≢ Spent → IsBack views place → (place ≢ seat) × IsBack (set views seat w) place
back_set views place seat v w at role (u, there, spent_is) =
    let apart : place ≢ seat = λ here. role (ap (λ (x : View). x.role) (some-injective v u (sym at ∙ ap (λ j. get_elem? views j) (sym here) ∙ there)) ∙ spent_is) in
    (apart, (u, set_else views seat place w apart ∙ there, spent_is))

pub back_spent : (views : List View) (place other : ℕ) → IsBack views place → IsBack (set views other spent) place
back_spent views place other (u, there, spent_is) = dite (ℕ_discrete place other)
    (λ (here : place ≡ other). (spent, ap (λ j. get_elem? (set views other spent) j) here ∙ set_here views other spent (subst (λ j. j < length views) here (below views place u there)), refl))
    (λ (apart : place ≢ other). (u, set_else views other place spent apart ∙ there, spent_is))

pub back_longer : (views more : List View) (place : ℕ) → IsBack views place → IsBack (views ++ more) place
back_longer views more place (u, there, spent_is) = (u, at_longer views more place u there, spent_is)
