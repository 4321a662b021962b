-- A walk along the chain of a place tells its holders in the order of their numbers.
use Rattle.std.proofs.Common.{◌≡◌, ◌⊎◌, ℕ, zero, suc, ◌<◌, ◌≤◌, Bool, true, false, nat_lt, List, [], ◌∷◌, length, get_or, map, filter, Contains, Option, Some, None, inl, inr, refl, ap, sym, subst, ◌∙◌, arith}
use Rattle.std.proofs.lemmas.Bool.{cond-true, cond-false, eq-eqb, eqb-true}
use Rattle.std.proofs.lemmas.List.{length-map}
use Rattle.std.proofs.lemmas.List.Sums.{length-filter}
use Rattle.freeze_ledger.specs.declared.freeze.Freeze.{Freeze}
use Rattle.freeze_ledger.specs.declared.freeze.Holder.{Holder}
use Rattle.ccb.specs.declared.place.Place.{Place}
use Rattle.freeze_ledger.specs.declared.chains.Link.{Link}
use Rattle.freeze_ledger.specs.declared.chains.Ends.{Ends}
use Rattle.ccb.specs.Places.{index_of}
use Rattle.freeze_ledger.specs.Freezes.{names, frozen, holders_of}
use Rattle.freeze_ledger.specs.Entries.{EntriesState, all_of}
use Rattle.freeze_ledger.specs.Invariant.{AreNumbered, AreApart, AreGiven}
use Rattle.freeze_ledger.specs.Links.{link_at, ends_at, walk, told}
use Rattle.freeze_ledger.specs.Chained.{LinkLeads, IsChained, lower}
use Rattle.freeze_ledger.proofs.Numbered.{above}
use Rattle.freeze_ledger.proofs.Slots.{stands, listed, list_rises}

-- those of higher numbers
abbrev beyond : ℕ → List Freeze → List Freeze
beyond low freezes = filter (λ freeze. nat_lt low freeze.number) freezes

below_true : (m n : ℕ) → m < n → nat_lt m n ≡ true
below_true m n l = grind (arith, l)

below_false : (m n : ℕ) → n ≤ m → nat_lt m n ≡ false
below_false m n l = grind (arith, l)

either : (b : Bool) → (b ≡ true) ⊎ (b ≡ false)
either true = inl refl
either false = inr refl

split : (m n : ℕ) → (m < n) ⊎ (n ≤ m)
split zero zero = inr (omega arith)
split zero (suc n) = inl (omega arith)
split (suc m) zero = inr (omega arith)
split (suc m) (suc n) = elim (split m n) [ inl l ↦ inl (omega (arith, l)) | inr g ↦ inr (omega (arith, g)) ]

beyond_all : (n low : ℕ) (fs : List Freeze) (high : ℕ) → n ≤ low → AreNumbered low fs high → beyond n fs ≡ fs
beyond_all n low [] high le h = refl
beyond_all n low (g ∷ fs) high le h =
    cond-true (nat_lt n g.number) _ _ (below_true n g.number (omega (arith, le, h.0))) ∙ ap (λ gs. g ∷ gs) (beyond_all n g.number fs high (omega (arith, le, h.0)) h.1)

-- one that is not asked for is passed over
skip_low : (place : Place) (n : ℕ) (g : Freeze) (fs : List Freeze) → g.number ≤ n → holders_of place (beyond n (g ∷ fs)) ≡ holders_of place (beyond n fs)
skip_low place n g fs low = ap (holders_of place) (cond-false (nat_lt n g.number) (g ∷ beyond n fs) (beyond n fs) (below_false n g.number low))

abbrev told_of : Freeze → ℕ × Holder
told_of freeze = (freeze.number, freeze.holder)

skip_other : (place : Place) (n : ℕ) (g : Freeze) (fs : List Freeze) → names place g ≡ false → holders_of place (beyond n (g ∷ fs)) ≡ holders_of place (beyond n fs)
skip_other place n g fs other =
    elim (split n g.number) [
      | inl l ↦
          ap (holders_of place) (cond-true (nat_lt n g.number) (g ∷ beyond n fs) (beyond n fs) (below_true n g.number l))
          ∙ ap (λ (gs : List Freeze). map told_of gs) (cond-false (names place g) (g ∷ filter (names place) (beyond n fs)) (filter (names place) (beyond n fs)) other)
      | inr le ↦ skip_low place n g fs le
    ]

-- the first that is asked for
take_it : (place : Place) (n : ℕ) (g : Freeze) (fs : List Freeze) → names place g ≡ true → n < g.number → holders_of place (beyond n (g ∷ fs)) ≡ (g.number, g.holder) ∷ holders_of place (beyond n fs)
take_it place n g fs named l =
    ap (holders_of place) (cond-true (nat_lt n g.number) (g ∷ beyond n fs) (beyond n fs) (below_true n g.number l))
    ∙ ap (λ (gs : List Freeze). map told_of gs) (cond-true (names place g) (g ∷ filter (names place) (beyond n fs)) (filter (names place) (beyond n fs)) named)

behind_head : (g f : Freeze) (fs : List Freeze) → Contains fs f → Contains (g ∷ fs) f
behind_head g f fs c = (suc c.0, omega (arith, c.1), c.2)

nobody : (place : Place) (n : ℕ) (fs : List Freeze) → ((g : Freeze) → Contains fs g → names place g ≡ true → n < g.number → ⊥) → holders_of place (beyond n fs) ≡ []
nobody place n [] none = refl
nobody place n (g ∷ fs) none =
    let rest = nobody place n fs (λ f c. none f (behind_head g f fs c)) in
    elim (split n g.number) [
      | inl l ↦
          elim (either (names place g)) [
            | inl named ↦ absurd (none g (zero, omega arith, refl) named l)
            | inr other ↦ skip_other place n g fs other ∙ rest
          ]
      | inr le ↦ skip_low place n g fs le ∙ rest
    ]

next_one : (place : Place) (n low : ℕ) (fs : List Freeze) (high : ℕ) (w : Freeze) (k : ℕ) → AreNumbered low fs high → k < length fs → get_or fs k w ≡ w → names place w ≡ true → n < w.number → ((g : Freeze) → Contains fs g → names place g ≡ true → n < g.number → w.number ≤ g.number) → holders_of place (beyond n fs) ≡ (w.number, w.holder) ∷ holders_of place (beyond w.number fs)
next_one place n low [] high w k h l e named up least = absurd (omega (arith, l))
next_one place n low (g ∷ fs) high w zero h l e named up least =
    let g_named : names place g ≡ true = subst (λ (x : Freeze). names place x ≡ true) (sym e) named in
    let g_is : g.number ≡ w.number = ap (λ (x : Freeze). x.number) e in
    let front = take_it place n g fs g_named (omega (arith, up, g_is)) in
    let all : beyond n fs ≡ fs = beyond_all n g.number fs high (omega (arith, up, g_is)) h.1 in
    let all_too : beyond w.number fs ≡ fs = beyond_all w.number g.number fs high (omega (arith, g_is)) h.1 in
    let tails : holders_of place (beyond n fs) ≡ holders_of place (beyond w.number (g ∷ fs)) = ap (holders_of place) (all ∙ sym all_too) ∙ sym (skip_low place w.number g fs (omega (arith, g_is))) in
    front ∙ (λ i. told_of (e i) ∷ tails i)
next_one place n low (g ∷ fs) high w (suc k) h l e named up least =
    let w_up : g.number < w.number = subst (λ (x : Freeze). g.number < x.number) e (above g.number fs high k w (omega (arith, l)) h.1) in
    let rest = next_one place n g.number fs high w k h.1 (omega (arith, l)) e named up (λ f c. least f (behind_head g f fs c)) in
    let passed : holders_of place (beyond n (g ∷ fs)) ≡ holders_of place (beyond n fs) =
    elim (split n g.number) [
      | inl below ↦
          elim (either (names place g)) [
            | inl g_named ↦ absurd (omega (arith, least g (zero, omega arith, refl) g_named below, w_up))
            | inr other ↦ skip_other place n g fs other
          ]
      | inr le ↦ skip_low place n g fs le
    ] in
    passed ∙ (rest ∙ ap (λ gs. (w.number, w.holder) ∷ gs) (sym (skip_low place w.number g fs (omega (arith, w_up)))))

named_by : (place : Place) (f : Freeze) → names place f ≡ true → index_of f.place ≡ index_of place
named_by place f e = eqb-true (index_of f.place) (index_of place) e

module _ (entries : EntriesState) (links : List Link) (ends : List Ends) (place : Place) where
  along : (steps n : ℕ) (link : Option ℕ) → IsChained entries links ends → AreApart entries.slots → AreGiven entries.slots entries.greatest → LinkLeads lower entries.slots (index_of place) n link → length (holders_of place (beyond n (all_of entries))) ≤ steps → walk steps entries.slots links link ≡ holders_of place (beyond n (all_of entries))
  along zero n link is apart given leads few = sym (empty (holders_of place (beyond n (all_of entries))) few)
    where
      empty : (xs : List (ℕ × Holder)) → length xs ≤ 0 → xs ≡ []
      empty [] few = refl
      empty (x ∷ xs) few = absurd (omega (arith, few))
  along (suc steps) n None is apart given leads few =
      sym (nobody place n (all_of entries) (λ g c named up.
      let at = stands entries.slots entries.greatest g c in
      leads at.0 g at.1 (named_by place g named) up))
  along (suc steps) n (Some key) is apart given leads few =
      let w : Freeze = leads.freeze in
      let c = listed entries.slots entries.greatest apart given key w leads.there in
      let named : names place w ≡ true = eq-eqb (index_of w.place) (index_of place) leads.named in
      let next = next_one place n 0 (all_of entries) entries.greatest w c.0 (list_rises entries.slots entries.greatest) c.1 c.2 named leads.behind (λ g there g_named up.
      let at = stands entries.slots entries.greatest g there in
      elim (split g.number w.number) [
        | inl before ↦ absurd (leads.first at.0 g at.1 (named_by place g g_named) up before)
        | inr le ↦ le
      ]) in
      let on : LinkLeads lower entries.slots (index_of place) w.number (link_at links key).later = subst (λ (p : ℕ). LinkLeads lower entries.slots p w.number (link_at links key).later) leads.named (is.laters key w leads.there) in
      let fewer : length (holders_of place (beyond w.number (all_of entries))) ≤ steps = omega (arith, few, ap (λ (xs : List (ℕ × Holder)). length xs) next) in
      let rest = along steps w.number (link_at links key).later is apart given on fewer in
      ap (λ (o : Option Freeze). told o (walk steps entries.slots links (link_at links key).later)) leads.there
      ∙ (ap (λ (xs : List (ℕ × Holder)). (w.number, w.holder) ∷ xs) rest ∙ sym next)

  pub walks : IsChained entries links ends → AreApart entries.slots → AreGiven entries.slots entries.greatest → index_of place < entries.places → walk (frozen place (all_of entries)) entries.slots links (ends_at ends (index_of place)).first ≡ holders_of place (all_of entries)
  walks is apart given known =
      let all : beyond 0 (all_of entries) ≡ all_of entries = beyond_all 0 0 (all_of entries) entries.greatest (omega arith) (list_rises entries.slots entries.greatest) in
      let many : length (holders_of place (beyond 0 (all_of entries))) ≡ frozen place (all_of entries) = ap (λ (fs : List Freeze). length (holders_of place fs)) all ∙ (length-map (filter (names place) (all_of entries)) told_of ∙ length-filter (names place) (all_of entries)) in
      along (frozen place (all_of entries)) 0 (ends_at ends (index_of place)).first is apart given (is.firsts (index_of place) (omega (arith, known, is.places))) (omega (arith, many))
      ∙ ap (holders_of place) all
