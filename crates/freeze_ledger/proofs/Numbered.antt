-- Lists of freezes whose numbers rise: what a freeze at the end and a removal leave.
use Rattle.std.proofs.Common.{◌≡◌, ◌≢◌, ℕ, zero, suc, ◌+◌, ◌<◌, ◌≤◌, List, [], ◌∷◌, ◌++◌, length, map, get_or, set, not, cond, eqb, Some, None, refl, ap, sym, ◌∙◌, arith}
use Rattle.std.proofs.lemmas.Bool.{eq-eqb, ne_eqb, cond-true, cond-false, cond_both, not_from_true, not_from_false}
use Rattle.std.specs.List.{remove, All}
use Rattle.ccb.specs.Rising.{AreRising}
use Rattle.freeze_ledger.specs.declared.freeze.Freeze.{Freeze}
use Rattle.freeze_ledger.specs.declared.freeze.Holder.{Holder}
use Rattle.freeze_ledger.specs.declared.freeze.Holder.TheVariants.{Timer}
use Rattle.ccb.specs.declared.place.Place.{Place}
use Rattle.freeze_ledger.specs.Freezes.{entry_of, handed_over, holders_of, names, without}
use Rattle.freeze_ledger.specs.Invariant.{AreNumbered}

-- above a lower number, too
pub lowered : (low lower : ℕ) (fs : List Freeze) (high : ℕ) → lower ≤ low → AreNumbered low fs high → AreNumbered lower fs high
lowered low lower [] high le h = omega arith
lowered low lower (f ∷ fs) high le h = (omega arith, h.1)

-- and below a higher one
pub raised : (low : ℕ) (fs : List Freeze) (high higher : ℕ) → high ≤ higher → AreNumbered low fs high → AreNumbered low fs higher
raised low [] high higher le h = omega (arith, h, le)
raised low (f ∷ fs) high higher le h = (h.0, raised f.number fs high higher le h.1)

-- one more at the end, whose number is the next
pub numbered_push : (low : ℕ) (fs : List Freeze) (high : ℕ) (f : Freeze) → AreNumbered low fs high → f.number ≡ high + 1 → AreNumbered low (fs ++ f ∷ []) (high + 1)
numbered_push low [] high f h e = (omega arith, omega arith)
numbered_push low (g ∷ fs) high f h e = (h.0, numbered_push g.number fs high f h.1 e)

-- one fewer
pub numbered_remove : (low : ℕ) (fs : List Freeze) (high k : ℕ) → k < length fs → AreNumbered low fs high → AreNumbered low (remove fs k) high
numbered_remove low [] high k l h = absurd (omega arith)
numbered_remove low (g ∷ fs) high zero l h = lowered g.number low fs high (omega arith) h.1
numbered_remove low (g ∷ fs) high (suc k) l h = (h.0, numbered_remove g.number fs high k (omega arith) h.1)

-- what stands in the list has a number above the lowest
pub above : (low : ℕ) (fs : List Freeze) (high k : ℕ) (d : Freeze) → k < length fs → AreNumbered low fs high → low < (get_or fs k d).number
above low [] high k d l h = absurd (omega arith)
above low (g ∷ fs) high zero d l h = h.0
above low (g ∷ fs) high (suc k) d l h = omega (arith, above g.number fs high k d (omega arith) h.1, h.0)

-- no freeze has a number that all are above
pub without_lower : (n low : ℕ) (fs : List Freeze) (high : ℕ) → n ≤ low → AreNumbered low fs high → without n fs ≡ fs
without_lower n low [] high le h = refl
without_lower n low (g ∷ fs) high le h =
    let lower : n ≤ g.number = omega (arith, h.0) in
    cond-true (not (eqb g.number n)) _ _ (not_from_false _ (ne_eqb g.number n (λ e. omega (arith, h.0, e)))) ∙ ap (λ gs. g ∷ gs) (without_lower n g.number fs high lower h.1)

-- numbers tell freezes apart: the one at a place is the one of its number
pub entry_at : (low : ℕ) (fs : List Freeze) (high k : ℕ) (f : Freeze) → k < length fs → AreNumbered low fs high → get_or fs k f ≡ f → entry_of f.number fs ≡ Some f
entry_at low [] high k f l h e = absurd (omega arith)
entry_at low (g ∷ fs) high zero f l h e = cond-true (eqb g.number f.number) _ _ (eq-eqb _ _ (ap (λ (x : Freeze). x.number) e)) ∙ ap Some e
entry_at low (g ∷ fs) high (suc k) f l h e =
    let up : g.number < (get_or fs k f).number = above g.number fs high k f (omega arith) h.1 in
    let same = ap (λ (x : Freeze). x.number) e in
    cond-false (eqb g.number f.number) _ _ (ne_eqb _ _ (λ q. omega (arith, up, same, q))) ∙ entry_at g.number fs high k f (omega arith) h.1 e

-- so a removal by place is one by number
pub remove_at : (low : ℕ) (fs : List Freeze) (high k : ℕ) (f : Freeze) → k < length fs → AreNumbered low fs high → get_or fs k f ≡ f → remove fs k ≡ without f.number fs
remove_at low [] high k f l h e = absurd (omega arith)
remove_at low (g ∷ fs) high zero f l h e =
    let same : g.number ≡ f.number = ap (λ (x : Freeze). x.number) e in
    sym (cond-false (not (eqb g.number f.number)) _ _ (not_from_true _ (eq-eqb _ _ same)) ∙ without_lower f.number g.number fs high (omega arith) h.1)
remove_at low (g ∷ fs) high (suc k) f l h e =
    let up : g.number < (get_or fs k f).number = above g.number fs high k f (omega arith) h.1 in
    let same = ap (λ (x : Freeze). x.number) e in
    ap (λ gs. g ∷ gs) (remove_at g.number fs high k f (omega arith) h.1 e)
    ∙ sym (cond-true (not (eqb g.number f.number)) _ _ (not_from_false _ (ne_eqb _ _ (λ q. omega (arith, up, same, q)))))

-- what has a number that all are above is handed over nowhere
handed_lower : (n due low : ℕ) (fs : List Freeze) (high : ℕ) → n ≤ low → AreNumbered low fs high → handed_over n due fs ≡ fs
handed_lower n due low [] high le h = refl
handed_lower n due low (g ∷ fs) high le h =
    let lower : n ≤ g.number = omega (arith, h.0) in
    let kept : cond {A = Freeze} (eqb g.number n) (record g { holder = Timer due }) g ≡ g = cond-false (eqb g.number n) _ _ (ne_eqb g.number n (λ e. omega (arith, h.0, e))) in
    λ i. kept i ∷ handed_lower n due g.number fs high lower h.1 i

-- and a change of the holder by place is one by number
pub hand_over_at : (due low : ℕ) (fs : List Freeze) (high k : ℕ) (f : Freeze) → k < length fs → AreNumbered low fs high → get_or fs k f ≡ f → set fs k (record f { holder = Timer due }) ≡ handed_over f.number due fs
hand_over_at due low [] high k f l h e = absurd (omega arith)
hand_over_at due low (g ∷ fs) high zero f l h e =
    let changed : cond {A = Freeze} (eqb g.number f.number) (record g { holder = Timer due }) g ≡ record g { holder = Timer due } = cond-true (eqb g.number f.number) _ _ (eq-eqb _ _ (ap (λ (x : Freeze). x.number) e)) in
    let same : g.number ≡ f.number = ap (λ (x : Freeze). x.number) e in
    let others = handed_lower f.number due g.number fs high (omega arith) h.1 in
    sym ((λ i. changed i ∷ others i) ∙ ap (λ (x : Freeze). record x { holder = Timer due } ∷ fs) e)
hand_over_at due low (g ∷ fs) high (suc k) f l h e =
    let up : g.number < (get_or fs k f).number = above g.number fs high k f (omega arith) h.1 in
    let same = ap (λ (x : Freeze). x.number) e in
    let kept : cond {A = Freeze} (eqb g.number f.number) (record g { holder = Timer due }) g ≡ g = cond-false (eqb g.number f.number) _ _ (ne_eqb _ _ (λ q. omega (arith, up, same, q))) in
    let rest = hand_over_at due g.number fs high k f (omega arith) h.1 e in
    λ i. sym kept i ∷ rest i

-- no freeze has a number that none bears
pub entry_of_none : (n : ℕ) (fs : List Freeze) → All (λ (freeze : Freeze). freeze.number ≢ n) fs → entry_of n fs ≡ None
entry_of_none n [] h = refl
entry_of_none n (g ∷ fs) h = cond-false (eqb g.number n) _ _ (ne_eqb g.number n (h zero g (omega arith))) ∙ entry_of_none n fs (λ k d l. h (suc k) d (omega (arith, l)))

-- rising numbers rise from a lower one, too
rising_lower : (low lower : ℕ) (ns : List ℕ) (high : ℕ) → lower ≤ low → AreRising low ns high → AreRising lower ns high
rising_lower low lower [] high le h = omega arith
rising_lower low lower (n ∷ ns) high le h = (omega (arith, h.0), h.1)

-- the numbers of one place's freezes rise as those of all do
pub holders_rise : (place : Place) (low : ℕ) (fs : List Freeze) (high : ℕ) → AreNumbered low fs high → AreRising low (map (λ (holder : ℕ × Holder). holder.0) (holders_of place fs)) high
holders_rise place low [] high h = h
holders_rise place low (g ∷ fs) high h =
    let rest = holders_rise place g.number fs high h.1 in
    let told : Freeze → ℕ × Holder = λ freeze. (freeze.number, freeze.holder) in
    cond_both (names place g) _ _ (λ (gs : List Freeze). AreRising low (map (λ (holder : ℕ × Holder). holder.0) (map told gs)) high)
    (λ _. (h.0, rest))
    (λ _. rising_lower g.number low (map (λ (holder : ℕ × Holder). holder.0) (holders_of place fs)) high (omega (arith, h.0)) rest)
