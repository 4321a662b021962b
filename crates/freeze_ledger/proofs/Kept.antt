-- What entries keep is kept by one more, one fewer and a change of a holder.
use Rattle.std.proofs.Common.{◌≡◌, ℕ, ◌+◌, ◌-◌, ◌<◌, ◌≤◌, List, [], ◌∷◌, ◌++◌, length, get_or, set, is_some, replicate, count_by, Option, Some, None, IsSome, refl, arith, length-append, cond, inl, inr, ◌∙◌, ap, sym, subst}
use Rattle.std.proofs.lemmas.Bool.{cases_eq, eq-eqb, ne_eqb}
use Rattle.std.proofs.lemmas.List.Sums.{sum_by-append, sum_by-remove, sum_by-set}
use Rattle.std.proofs.lemmas.List.Edits.{length-remove}
use Rattle.std.proofs.lemmas.List.{get_or-set_same, get_or-set_other, get_or_default, get_or_past, get_or-replicate, length-replicate}
use Rattle.std.proofs.Math.ListN.{length-set}
use Rattle.std.specs.List.{remove, sum_by}
use Rattle.slab.specs.Slab.{Slab, slab_len, Updates, with_value}
use Rattle.slab.proofs.SlabLemmas.{Updates-with_value}
use Rattle.ccb.specs.declared.place.Place.{Place}
use Rattle.ccb.specs.Places.{index_of, is_place}
use Rattle.freeze_ledger.specs.declared.freeze.Freeze.{Freeze}
use Rattle.freeze_ledger.specs.declared.freeze.Holder.TheVariants.{Timer}
use Rattle.freeze_ledger.specs.Freezes.{frozen, without, handed_over}
use Rattle.freeze_ledger.specs.Entries.{freeze_at, freezes_in, Changes}
use Rattle.freeze_ledger.specs.Invariant.{LedgerIsKept, AreApart, AreGiven}
use Rattle.freeze_ledger.proofs.Numbered.{remove_at, hand_over_at}
use Rattle.freeze_ledger.proofs.Slots.{listed, list_rises, apart_changed, each_changed, freezes_entered, freezes_removed, freezes_handed}

-- the count that is read at the number of a place
pub count_at : (counts : List ℕ) (at place count default : ℕ) → at ≡ place → place < length counts → count ≡ get_or counts at default → count ≡ get_or counts place 0
count_at counts at place count default e below read =
    read ∙ (ap (λ (n : ℕ). get_or counts n default) e ∙ get_or_default counts place default 0 below)

-- a sum over all freezes, without one
pub sum_without : (w : Freeze → ℕ) (slots : List (Option Freeze)) (high : ℕ) → AreApart slots → AreGiven slots high → (key : ℕ) (f : Freeze) → freeze_at slots key ≡ Some f → sum_by w (without f.number (freezes_in slots high)) + w f ≡ sum_by w (freezes_in slots high)
sum_without w slots high apart given key f e =
    let fs : List Freeze = freezes_in slots high in
    let c = listed slots high apart given key f e in
    let left = remove_at 0 fs high c.0 f c.1 (list_rises slots high) c.2 in
    let sum : sum_by w (remove fs c.0) + w f ≡ sum_by w fs = subst (λ (x : Freeze). sum_by w (remove fs c.0) + w x ≡ sum_by w fs) c.2 (sum_by-remove w fs c.0 f c.1) in
    subst (λ (gs : List Freeze). sum_by w gs + w f ≡ sum_by w fs) left sum

-- and with another holder of one
pub sum_handed : (w : Freeze → ℕ) (slots : List (Option Freeze)) (high : ℕ) → AreApart slots → AreGiven slots high → (key due : ℕ) (f : Freeze) → freeze_at slots key ≡ Some f → sum_by w (handed_over f.number due (freezes_in slots high)) + w f ≡ sum_by w (freezes_in slots high) + w (record f { holder = Timer due })
sum_handed w slots high apart given key due f e =
    let fs : List Freeze = freezes_in slots high in
    let later : Freeze = record f { holder = Timer due } in
    let c = listed slots high apart given key f e in
    let left = hand_over_at due 0 fs high c.0 f c.1 (list_rises slots high) c.2 in
    let sum : sum_by w (set fs c.0 later) + w f ≡ sum_by w fs + w later = subst (λ (x : Freeze). sum_by w (set fs c.0 later) + w x ≡ sum_by w fs + w later) c.2 (sum_by-set w fs c.0 later f c.1) in
    subst (λ (gs : List Freeze). sum_by w gs + w f ≡ sum_by w fs + w later) left sum

length_without : (slots : List (Option Freeze)) (high : ℕ) → AreApart slots → AreGiven slots high → (key : ℕ) (f : Freeze) → freeze_at slots key ≡ Some f → length (without f.number (freezes_in slots high)) + 1 ≡ length (freezes_in slots high)
length_without slots high apart given key f e =
    let fs : List Freeze = freezes_in slots high in
    let c = listed slots high apart given key f e in
    let left = remove_at 0 fs high c.0 f c.1 (list_rises slots high) c.2 in
    subst (λ (gs : List Freeze). length gs + 1 ≡ length fs) left (omega (arith, length-remove fs c.0 c.1, c.1))

length_handed : (slots : List (Option Freeze)) (high : ℕ) → AreApart slots → AreGiven slots high → (key due : ℕ) (f : Freeze) → freeze_at slots key ≡ Some f → length (handed_over f.number due (freezes_in slots high)) ≡ length (freezes_in slots high)
length_handed slots high apart given key due f e =
    let fs : List Freeze = freezes_in slots high in
    let c = listed slots high apart given key f e in
    let left = hand_over_at due 0 fs high c.0 f c.1 (list_rises slots high) c.2 in
    subst (λ (gs : List Freeze). length gs ≡ length fs) left (length-set fs c.0 (record f { holder = Timer due }))

-- each stored count is the number of entries, where one came
counted_more : (counts : List ℕ) (p : Place) (fs gs : List Freeze) → ((q : Place) → index_of q < length counts → get_or counts (index_of q) 0 ≡ frozen q fs) → index_of p < length counts → ((q : Place) → frozen q gs ≡ frozen q fs + cond (is_place p q) 1 0) → (q : Place) → index_of q < length counts → get_or (set counts (index_of p) (get_or counts (index_of p) 0 + 1)) (index_of q) 0 ≡ frozen q gs
counted_more counts p fs gs counted known more q below =
    let now = counted q below in
    let here_more = more q in
    elim (cases_eq (index_of q) (index_of p)) [
      | inl same ↦
          let here : get_or (set counts (index_of p) (get_or counts (index_of p) 0 + 1)) (index_of p) 0 ≡ get_or counts (index_of p) 0 + 1 = rw get_or-set_same refl in
          let one : cond {A = ℕ} (is_place p q) 1 0 ≡ 1 = rw (eq-eqb (index_of p) (index_of q) (sym same)) refl in
          let there : get_or counts (index_of p) 0 ≡ frozen q fs = rw (← same) now in
          let moved : get_or (set counts (index_of p) (get_or counts (index_of p) 0 + 1)) (index_of q) 0 ≡ get_or counts (index_of p) 0 + 1 = subst (λ (x : ℕ). get_or (set counts (index_of p) (get_or counts (index_of p) 0 + 1)) x 0 ≡ get_or counts (index_of p) 0 + 1) (sym same) here in
          omega (arith, moved, there, one, here_more)
      | inr other ↦
          let kept : get_or (set counts (index_of p) (get_or counts (index_of p) 0 + 1)) (index_of q) 0 ≡ get_or counts (index_of q) 0 = rw get_or-set_other refl in
          let none : cond {A = ℕ} (is_place p q) 1 0 ≡ 0 = rw (ne_eqb (index_of p) (index_of q) (λ e. other (sym e))) refl in
          omega (arith, kept, none, here_more, now)
    ]

-- and where one went
counted_fewer : (counts : List ℕ) (p : Place) (fs gs : List Freeze) → ((q : Place) → index_of q < length counts → get_or counts (index_of q) 0 ≡ frozen q fs) → index_of p < length counts → ((q : Place) → frozen q gs + cond (is_place p q) 1 0 ≡ frozen q fs) → (q : Place) → index_of q < length counts → get_or (set counts (index_of p) (get_or counts (index_of p) 0 - 1)) (index_of q) 0 ≡ frozen q gs
counted_fewer counts p fs gs counted known fewer q below =
    let now = counted q below in
    let here_fewer = fewer q in
    elim (cases_eq (index_of q) (index_of p)) [
      | inl same ↦
          let here : get_or (set counts (index_of p) (get_or counts (index_of p) 0 - 1)) (index_of p) 0 ≡ get_or counts (index_of p) 0 - 1 = rw get_or-set_same refl in
          let one : cond {A = ℕ} (is_place p q) 1 0 ≡ 1 = rw (eq-eqb (index_of p) (index_of q) (sym same)) refl in
          let there : get_or counts (index_of p) 0 ≡ frozen q fs = rw (← same) now in
          let moved : get_or (set counts (index_of p) (get_or counts (index_of p) 0 - 1)) (index_of q) 0 ≡ get_or counts (index_of p) 0 - 1 = subst (λ (x : ℕ). get_or (set counts (index_of p) (get_or counts (index_of p) 0 - 1)) x 0 ≡ get_or counts (index_of p) 0 - 1) (sym same) here in
          omega (arith, moved, there, one, here_fewer)
      | inr other ↦
          let kept : get_or (set counts (index_of p) (get_or counts (index_of p) 0 - 1)) (index_of q) 0 ≡ get_or counts (index_of q) 0 = rw get_or-set_other refl in
          let none : cond {A = ℕ} (is_place p q) 1 0 ≡ 0 = rw (ne_eqb (index_of p) (index_of q) (λ e. other (sym e))) refl in
          omega (arith, kept, none, here_fewer, now)
    ]

pub changes : {old new : Slab Freeze} {key : ℕ} {slot : Option Freeze} → Updates old new key slot → Changes old.slots new.slots key slot
changes u = record { changed = u.changed; others = u.others }

-- what came bears a number of its own
pub entered_apart : (old new : List (Option Freeze)) (key greatest : ℕ) (f : Freeze) → AreApart old → AreGiven old greatest → f.number ≡ greatest + 1 → Changes old new key (Some f) → AreApart new
entered_apart old new key greatest f apart given number change =
    apart_changed old new key (Some f) apart change (λ g is k h other e same.
    let it : f ≡ g = cc is in
    omega (arith, (given k h e).1, same, number, ap (λ (x : Freeze). x.number) it))

pub kept_entered : (old new : Slab Freeze) (counts : List ℕ) (greatest key : ℕ) (f : Freeze) → LedgerIsKept old counts greatest → Updates old new key (Some f) → freeze_at old.slots key ≡ None → f.number ≡ greatest + 1 → index_of f.place < length counts → slab_len new ≡ slab_len old + 1 → slab_len old < 1024 → new.capacity ≡ old.capacity → LedgerIsKept new (set counts (index_of f.place) (get_or counts (index_of f.place) 0 + 1)) (greatest + 1)
kept_entered old new counts greatest key f k u vacant number known len room capacity =
    let n = length-set counts (index_of f.place) (get_or counts (index_of f.place) 0 + 1) in
    let change = changes u in
    let apart : AreApart new.slots = entered_apart old.slots new.slots key greatest f k.apart k.given number change in
    let list : freezes_in new.slots (greatest + 1) ≡ freezes_in old.slots greatest ++ f ∷ [] = freezes_entered old.slots new.slots key f greatest k.apart apart k.given number vacant change in
    record {
      apart = apart;
      given = each_changed old.slots new.slots key (Some f) change (λ (g : Freeze). (0 < g.number) × (g.number ≤ greatest + 1)) (λ j g e. let b = k.given j g e in (b.0, omega (arith, b.1))) (λ g is. let it : f ≡ g = cc is in subst (λ (x : Freeze). (0 < x.number) × (x.number ≤ greatest + 1)) it (omega (arith, number), omega (arith, number)));
      known = each_changed old.slots new.slots key (Some f) change (λ (g : Freeze). index_of g.place < length (set counts (index_of f.place) (get_or counts (index_of f.place) 0 + 1))) (λ j g e. rw n (k.known j g e)) (λ g is. let it : f ≡ g = cc is in subst (λ (x : Freeze). index_of x.place < length (set counts (index_of f.place) (get_or counts (index_of f.place) 0 + 1))) it (rw n known));
      counted = λ q below. rw list (counted_more counts f.place (freezes_in old.slots greatest) (freezes_in old.slots greatest ++ f ∷ []) k.counted known (λ p. sum_by-append (λ (x : Freeze). cond (is_place x.place p) 1 0) (freezes_in old.slots greatest) (f ∷ []) ∙ omega arith) q (omega (arith, n, below)));
      total = rw list (omega (arith, length-append (freezes_in old.slots greatest) (f ∷ []), k.total, len));
      within = omega (arith, len, room);
      room = rw capacity k.room;
    }

pub removed_apart : (old new : List (Option Freeze)) (key : ℕ) → AreApart old → Changes old new key None → AreApart new
removed_apart old new key apart change = apart_changed old new key None apart change (λ g is. let no_one : None ≡ Some g = is in absurd (cc no_one))

-- a place with an entry has a count above 0
pub counted_above : (slab : Slab Freeze) (counts : List ℕ) (greatest key : ℕ) (f : Freeze) → LedgerIsKept slab counts greatest → freeze_at slab.slots key ≡ Some f → (index_of f.place < length counts) × (1 ≤ get_or counts (index_of f.place) 0)
counted_above slab counts greatest key f kept e =
    let known = kept.known key f e in
    let fewer = sum_without (λ (x : Freeze). cond (is_place x.place f.place) 1 0) slab.slots greatest kept.apart kept.given key f e in
    let one : cond {A = ℕ} (is_place f.place f.place) 1 0 ≡ 1 = rw (eq-eqb (index_of f.place) (index_of f.place) refl) refl in
    (known, omega (arith, kept.counted f.place known, fewer, one))

pub kept_removed : (old new : Slab Freeze) (counts : List ℕ) (greatest key : ℕ) (f : Freeze) → LedgerIsKept old counts greatest → Updates old new key None → freeze_at old.slots key ≡ Some f → slab_len new + 1 ≡ slab_len old → new.capacity ≡ old.capacity → LedgerIsKept new (set counts (index_of f.place) (get_or counts (index_of f.place) 0 - 1)) greatest
kept_removed old new counts greatest key f k u there len capacity =
    let n = length-set counts (index_of f.place) (get_or counts (index_of f.place) 0 - 1) in
    let change = changes u in
    let apart : AreApart new.slots = removed_apart old.slots new.slots key k.apart change in
    let list : freezes_in new.slots greatest ≡ without f.number (freezes_in old.slots greatest) = freezes_removed old.slots new.slots key f greatest k.apart apart there change in
    let known = k.known key f there in
    record {
      apart = apart;
      given = each_changed old.slots new.slots key None change (λ (g : Freeze). (0 < g.number) × (g.number ≤ greatest)) k.given (λ g is. let no_one : None ≡ Some g = is in absurd (cc no_one));
      known = each_changed old.slots new.slots key None change (λ (g : Freeze). index_of g.place < length (set counts (index_of f.place) (get_or counts (index_of f.place) 0 - 1))) (λ j g e. rw n (k.known j g e)) (λ g is. let no_one : None ≡ Some g = is in absurd (cc no_one));
      counted = λ q below. rw list (counted_fewer counts f.place (freezes_in old.slots greatest) (without f.number (freezes_in old.slots greatest)) k.counted known (λ p. sum_without (λ (x : Freeze). cond (is_place x.place p) 1 0) old.slots greatest k.apart k.given key f there) q (omega (arith, n, below)));
      total = rw list (omega (arith, length_without old.slots greatest k.apart k.given key f there, k.total, len));
      within = omega (arith, len, k.within);
      room = rw capacity k.room;
    }

-- another holder has the number that the freeze had
pub handed_apart : (old new : List (Option Freeze)) (key due : ℕ) (f : Freeze) → AreApart old → freeze_at old key ≡ Some f → Changes old new key (Some (record f { holder = Timer due })) → AreApart new
handed_apart old new key due f apart there change =
    apart_changed old new key (Some (record f { holder = Timer due })) apart change (λ g is k h other e same.
    let it : record f { holder = Timer due } ≡ g = cc is in
    let number : f.number ≡ g.number = ap (λ (x : Freeze). x.number) it in
    other (apart k key h f e there (same ∙ sym number)))

pub kept_handed : (old new : Slab Freeze) (counts : List ℕ) (greatest key due : ℕ) (f : Freeze) → LedgerIsKept old counts greatest → Updates old new key (Some (record f { holder = Timer due })) → freeze_at old.slots key ≡ Some f → slab_len new ≡ slab_len old → new.capacity ≡ old.capacity → LedgerIsKept new counts greatest
kept_handed old new counts greatest key due f k u there len capacity =
    let change = changes u in
    let apart : AreApart new.slots = handed_apart old.slots new.slots key due f k.apart there change in
    let list : freezes_in new.slots greatest ≡ handed_over f.number due (freezes_in old.slots greatest) = freezes_handed old.slots new.slots key f due greatest k.apart apart there change in
    let given = k.given key f there in
    let known = k.known key f there in
    record {
      apart = apart;
      given = each_changed old.slots new.slots key (Some (record f { holder = Timer due })) change (λ (g : Freeze). (0 < g.number) × (g.number ≤ greatest)) k.given (λ g is. let it : record f { holder = Timer due } ≡ g = cc is in subst (λ (x : Freeze). (0 < x.number) × (x.number ≤ greatest)) it given);
      known = each_changed old.slots new.slots key (Some (record f { holder = Timer due })) change (λ (g : Freeze). index_of g.place < length counts) k.known (λ g is. let it : record f { holder = Timer due } ≡ g = cc is in subst (λ (x : Freeze). index_of x.place < length counts) it known);
      counted = λ q below. rw list (k.counted q below ∙ sym (omega (arith, sum_handed (λ (x : Freeze). cond (is_place x.place q) 1 0) old.slots greatest k.apart k.given key due f there)));
      total = rw (list, len) (k.total ∙ sym (length_handed old.slots greatest k.apart k.given key due f there));
      within = omega (arith, len, k.within);
      room = rw capacity k.room;
    }

-- a value that is written in the place of another
pub written : (s : Slab Freeze) (key : ℕ) (f later : Freeze) → freeze_at s.slots key ≡ Some f → Updates s (with_value s key later) key (Some later)
written s key f later there = Updates-with_value s key later (is_there (freeze_at s.slots key) f there)
  where
    is_there : (o : Option Freeze) (f : Freeze) → o ≡ Some f → IsSome o
    is_there o f e = rw e refl

pub same_len : (s : Slab Freeze) (key : ℕ) (f later : Freeze) → freeze_at s.slots key ≡ Some f → slab_len (with_value s key later) ≡ slab_len s
same_len s key f later there =
    let within : key < length s.slots = grind (arith, there, get_or_past) in
    let sum = sum_by-set (λ (o : Option Freeze). cond (is_some o) 1 0) s.slots key (Some later) None within in
    let was : cond {A = ℕ} (is_some (get_or s.slots key None)) 1 0 ≡ 1 = ap (λ (o : Option Freeze). cond {A = ℕ} (is_some o) 1 0) there in
    omega (arith, sum, was)

-- and none keep it
pub kept_empty : (s : Slab Freeze) (places : ℕ) → s.slots ≡ [] → 1024 ≤ s.capacity → LedgerIsKept s (replicate places 0) 0
unfolding freezes_in
kept_empty s places empty room =
    let none : (key : ℕ) (f : Freeze) → freeze_at s.slots key ≡ Some f → ⊥ = λ key f e. let no_one : None ≡ Some f = subst (λ (xs : List (Option Freeze)). freeze_at xs key ≡ Some f) empty e in cc no_one in
    let len : slab_len s ≡ 0 = ap (λ (xs : List (Option Freeze)). count_by is_some xs) empty in
    record {
      apart = λ key other f g e e2 same. absurd (none key f e);
      given = λ key f e. absurd (none key f e);
      known = λ key f e. absurd (none key f e);
      counted = λ q below. get_or-replicate places (index_of q) 0 0 (omega (arith, below, length-replicate {A = ℕ} places 0));
      total = len;
      within = omega (arith, len);
      room = room;
    }
