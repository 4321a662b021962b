-- What each run holds are the entries that name it, whatever becomes of the freezes and of the runs.
use Rattle.std.proofs.Common.{◌≡◌, ℕ, zero, suc, ◌+◌, ◌<◌, ◌≤◌, List, [], ◌∷◌, ◌++◌, length, map, get_or, set, true, false, Option, Some, None, IsSome, inl, inr, refl, ap, sym, subst, ◌∙◌, arith}
use Rattle.std.specs.List.{Contains, remove}
use Rattle.std.specs.Option.{option_to_list}
use Rattle.std.proofs.lemmas.Bool.{cases_Bool, cases_eq, eq-eqb, eqb-true, ne_eqb}
use Rattle.std.proofs.lemmas.List.{get_or-map, map_push}
use Rattle.std.proofs.lemmas.List.Elements.{filter-append}
use Rattle.std.proofs.lemmas.Simd.{map-map}
use Rattle.freeze_ledger.specs.declared.freeze.Holder.{Holder}
use Rattle.freeze_ledger.specs.declared.freeze.Holder.TheVariants.{Run, Timer, Guest}
use Rattle.freeze_ledger.specs.declared.freeze.Freeze.{Freeze}
use Rattle.freeze_ledger.specs.Freezes.{entry_of, without, handed_over, is_due, not_due_at}
use Rattle.cam_numbered_slots.proofs.Numbers.{map_remove}
use Rattle.engine_runs.specs.RunPlaces.{HasRunAt}
use Rattle.engine_runs.specs.RunsState.{RunsState, tokens_at, tokens_of}
use Rattle.world.specs.World.{LiveRun, Runs, Setup, Transport, World}
use Rattle.world.specs.Lookups.{run_of, with_run}
use Rattle.world.specs.RunSteps.{is_run}
use Rattle.world.specs.FreezeSteps.{is_guest}
use Rattle.world.specs.Laws.FreezeLaws.{entries_of}
use Rattle.ccb.specs.Rising.{AreRising}
use Rattle.world.proofs.Lists.Entries.{freeze_key, handed_is_put, FreezesRise}
use Rattle.world.proofs.Lists.Found.{at_head, at_tail, found_in_filter, found_key, leave, put_keys}
use Rattle.world.proofs.Lists.HeldBy.{entries_head, entries_kept, entries_push_other, entries_put, entries_without, entries_without_other, held_none}
use Rattle.world.proofs.Lists.Placed.{apart, below, found_at, remove_is_leave}
use Rattle.world.proofs.Lists.Rising.{missing_high, rising_filter}
use Rattle.world.proofs.Steps.Moves.{run_key}
use Rattle.world_laws.proofs.Sound.{IsSound}
use Rattle.engine_transport.specs.Freezing.{took}
use Rattle.engine_core.specs.Invariant.{HoldEntries}
use Rattle.engine_core.proofs.Standing.{none_held}

-- what a run of that number has the right to give back
abbrev pub own : List Freeze → ℕ → List (Option Freeze)
own freezes number = tokens_of (entries_of number freezes)

-- Holders.

-- a holder is one run at most
one_run : (a b : ℕ) (h : Holder) → is_run a h ≡ true → is_run b h ≡ true → a ≡ b
one_run a b (Run x) p q = sym (eqb-true x a p) ∙ eqb-true x b q
one_run a b (Timer x) p q = absurd (let bad : false ≡ true = p in cc)
one_run a b (Guest x) p q = absurd (let bad : false ≡ true = p in cc)

other_run : (a b : ℕ) (h : Holder) → is_run b h ≡ true → (a ≡ b → ⊥) → is_run a h ≡ false
other_run a b h its other =
    elim (cases_Bool (is_run a h)) [
      | inl also ↦ absurd (other (one_run a b h also its))
      | inr is_not ↦ is_not
    ]

guest_is_no_run : (a : ℕ) (h : Holder) → is_guest h ≡ true → is_run a h ≡ false
guest_is_no_run a (Run x) p = absurd (let bad : false ≡ true = p in cc)
guest_is_no_run a (Timer x) p = absurd (let bad : false ≡ true = p in cc)
guest_is_no_run a (Guest x) p = refl

-- no timer holds what a run holds
run_is_not_due : (reading a : ℕ) (h : Holder) → is_run a h ≡ true → is_due reading h ≡ false
run_is_not_due reading a (Run x) p = refl
run_is_not_due reading a (Timer x) p = absurd (let bad : false ≡ true = p in cc)
run_is_not_due reading a (Guest x) p = absurd (let bad : false ≡ true = p in cc)

is_its : (n run : ℕ) (f : Freeze) → f.holder ≡ Run run → run ≡ n → is_run n f.holder ≡ true
is_its n run f holder e = ap (is_run n) holder ∙ eq-eqb run n e

is_not_its : (n run : ℕ) (f : Freeze) → f.holder ≡ Run run → (run ≡ n → ⊥) → is_run n f.holder ≡ false
is_not_its n run f holder other = ap (is_run n) holder ∙ ne_eqb run n other

-- Entries.

-- one more of its own
entries_push_own : (number : ℕ) (fs : List Freeze) (f : Freeze) → is_run number f.holder ≡ true → entries_of number (fs ++ f ∷ []) ≡ entries_of number fs ++ f ∷ []
entries_push_own number fs f its =
    filter-append (λ (x : Freeze). is_run number x.holder) fs (f ∷ [])
    ∙ ap (λ (gs : List Freeze). entries_of number fs ++ gs) (entries_head number f [] its)

-- the freeze of a number stands in the list
pub entry_is_there : (n : ℕ) (fs : List Freeze) (f : Freeze) → entry_of n fs ≡ Some f → Contains fs f
entry_is_there n [] f entry = absurd (let bad : None ≡ Some f = entry in cc)
entry_is_there n (g ∷ fs) f entry =
    elim (cases_eq g.number n) [
      | inl same ↦
          let both : Some g ≡ Some f = sym (at_head freeze_key n g fs same) ∙ entry in
          let is : g ≡ f = cc in
          (0, omega arith, is)
      | inr other ↦
          let rest = entry_is_there n fs f (sym (at_tail freeze_key n g fs other) ∙ entry) in
          (suc rest.0, omega (arith, rest.1), rest.2)
    ]

-- and the one that stands in it is that of its number
pub its_entry : (fs : List Freeze) (greatest : ℕ) (f : Freeze) → FreezesRise 0 fs greatest → Contains fs f → entry_of f.number fs ≡ Some f
its_entry fs greatest f numbered there =
    found_at freeze_key 0 fs greatest there.0 f.number f there.1 numbered (ap freeze_key there.2) ∙ ap Some there.2

-- a run that has not started is named by none
not_started : (setup : Setup) (world : World) → IsSound setup world → entries_of (world.runs.greatest + 1) world.transport.freezes ≡ []
not_started setup world sound =
    let number : ℕ = world.runs.greatest + 1 in
    let none : run_of number world.runs.list ≡ None = missing_high run_key 0 world.runs.list world.runs.greatest number (omega arith) sound.kept.runs.rising in
    none_held (entries_of number world.transport.freezes)
    (held_none number 0 world.transport.freezes world.transport.greatest_freeze sound.kept.freezes.numbered (λ n f entry.
    elim (cases_Bool (is_run number f.holder)) [
      | inl its ↦
          let live : IsSome (run_of number world.runs.list) = sound.held.entries n number f entry its in
          absurd (let bad : IsSome {T = LiveRun} None = subst (λ (o : Option LiveRun). IsSome o) none live in cc)
      | inr other ↦ other
    ]))

-- Where each run holds what it held.

pub same_entries : (before after : List Freeze) (runs : RunsState) → HoldEntries before runs → ((n : ℕ) → entries_of n after ≡ entries_of n before) → HoldEntries after runs
same_entries before after runs holds same = holds ∙ (λ i. map (λ (run : LiveRun). tokens_of (sym (same run.number) i)) runs.runs.list)

-- the freezes are the same
pub same_freezes : (before after : List Freeze) (runs : RunsState) → HoldEntries before runs → after ≡ before → HoldEntries after runs
same_freezes before after runs holds same = same_entries before after runs holds (λ n. ap (entries_of n) same)

-- a guest has one more
pub guest_froze : (before after : List Freeze) (f : Freeze) (runs : RunsState) → HoldEntries before runs → is_guest f.holder ≡ true → after ≡ before ++ f ∷ [] → HoldEntries after runs
guest_froze before after f runs holds guests more =
    same_entries before after runs holds (λ n. ap (entries_of n) more ∙ entries_push_other n before f (guest_is_no_run n f.holder guests))

-- a guest has one fewer
pub guest_released : (before after : List Freeze) (greatest : ℕ) (f : Freeze) (runs : RunsState) → HoldEntries before runs → FreezesRise 0 before greatest → entry_of f.number before ≡ Some f → is_guest f.holder ≡ true → after ≡ without f.number before → HoldEntries after runs
guest_released before after greatest f runs holds numbered entry guests fewer =
    same_entries before after runs holds (λ n. ap (entries_of n) fewer ∙ entries_without_other n f.number 0 before greatest f numbered entry (guest_is_no_run n f.holder guests))

-- timers let theirs go
pub timers_released : (before after : List Freeze) (greatest reading : ℕ) (runs : RunsState) → HoldEntries before runs → FreezesRise 0 before greatest → after ≡ not_due_at reading before → HoldEntries after runs
timers_released before after greatest reading runs holds numbered fewer =
    same_entries before after runs holds (λ n. ap (entries_of n) fewer ∙ entries_kept n 0 before greatest (λ (f : Freeze). is_due reading f.holder) numbered (λ m f there its. run_is_not_due reading n f.holder its))

-- the runs have the same numbers and tokens
pub same_numbers : (freezes : List Freeze) (old new : RunsState) → HoldEntries freezes old → new.tokens ≡ old.tokens → map run_key new.runs.list ≡ map run_key old.runs.list → HoldEntries freezes new
same_numbers freezes old new holds tokens numbers =
    tokens ∙ (holds ∙ (sym (map-map (own freezes) run_key old.runs.list) ∙ (ap (λ (ns : List ℕ). map (own freezes) ns) (sym numbers) ∙ map-map (own freezes) run_key new.runs.list)))

-- one of them changed, but for its number
pub run_changed : (freezes : List Freeze) (old new : RunsState) (it : LiveRun) → HoldEntries freezes old → new ≡ record old { runs = record old.runs { list = with_run it old.runs.list } } → HoldEntries freezes new
run_changed freezes old new it holds is =
    same_numbers freezes old new holds (ap (λ (s : RunsState). s.tokens) is)
    (ap (λ (s : RunsState). map run_key s.runs.list) is ∙ put_keys run_key it old.runs.list)

-- Lists by place.

map_same : {A B : Type 0} (f g : A → B) (xs : List A) (d : A) → ((j : ℕ) → j < length xs → f (get_or xs j d) ≡ g (get_or xs j d)) → map f xs ≡ map g xs
map_same f g [] d h = refl
map_same f g (x ∷ xs) d h = λ i. h 0 (omega arith) i ∷ map_same f g xs d (λ j l. h (suc j) (omega (arith, l))) i

map_at : {A B : Type 0} (f g : A → B) (xs : List A) (k : ℕ) (d : A) → k < length xs → ((j : ℕ) → j < length xs → (j ≡ k → ⊥) → f (get_or xs j d) ≡ g (get_or xs j d)) → map f xs ≡ set (map g xs) k (f (get_or xs k d))
map_at f g [] k d l h = absurd (omega (arith, l))
map_at f g (x ∷ xs) zero d l h = ap (λ ys. f x ∷ ys) (map_same f g xs d (λ j below_it. h (suc j) (omega (arith, below_it)) (λ e. omega (arith, e))))
map_at f g (x ∷ xs) (suc k) d l h =
    λ i. h 0 (omega arith) (λ e. omega (arith, e)) i ∷ map_at f g xs k d (omega (arith, l)) (λ j below_it other. h (suc j) (omega (arith, below_it)) (λ e. other (omega (arith, e)))) i

-- One run.

-- its tokens are those of the entries that name it
pub tokens_here : (freezes : List Freeze) (runs : RunsState) (place : ℕ) (it : LiveRun) → HoldEntries freezes runs → HasRunAt runs.runs.list place it → tokens_at runs place ≡ own freezes it.number
tokens_here freezes runs place it holds at =
    ap (λ (ts : List (List (Option Freeze))). get_or ts place []) holds
    ∙ (get_or-map (λ (run : LiveRun). own freezes run.number) runs.runs.list place it [] at.within ∙ ap (λ (run : LiveRun). own freezes run.number) at.here)

-- with other entries of this one alone
one_changed : (before after : List Freeze) (runs : RunsState) (place greatest : ℕ) (it : LiveRun) → HoldEntries before runs → HasRunAt runs.runs.list place it → AreRising 0 (map run_key runs.runs.list) greatest → ((n : ℕ) → (n ≡ it.number → ⊥) → entries_of n after ≡ entries_of n before) → HoldEntries after (record runs { tokens = set runs.tokens place (own after it.number) })
one_changed before after runs place greatest it holds at rising others =
    let list : List LiveRun = runs.runs.list in
    ap (λ (ts : List (List (Option Freeze))). set ts place (own after it.number)) holds
    ∙ (ap (λ (run : LiveRun). set (map (λ (x : LiveRun). own before x.number) list) place (own after run.number)) (sym at.here)
    ∙ sym (map_at (λ (x : LiveRun). own after x.number) (λ (x : LiveRun). own before x.number) list place it at.within (λ j within other.
    ap tokens_of (others (get_or list j it).number (λ e. apart run_key 0 list greatest j place it it within at.within other rising (e ∙ sym (ap run_key at.here)))))))

-- it holds one freeze more
pub holds_one_more : (before after : List Freeze) (runs new : RunsState) (place greatest : ℕ) (it : LiveRun) (f : Freeze) → HoldEntries before runs → HasRunAt runs.runs.list place it → AreRising 0 (map run_key runs.runs.list) greatest → f.holder ≡ Run it.number → after ≡ before ++ f ∷ [] → new ≡ record runs { tokens = set runs.tokens place (tokens_at runs place ++ Some f ∷ []) } → HoldEntries after new
holds_one_more before after runs new place greatest it f holds at rising holder more is =
    let its : tokens_at runs place ++ Some f ∷ [] ≡ own after it.number =
    ap (λ (ts : List (Option Freeze)). ts ++ Some f ∷ []) (tokens_here before runs place it holds at)
    ∙ (sym (map_push (λ (x : Freeze). Some x) (entries_of it.number before) f)
    ∙ ap tokens_of (sym (ap (entries_of it.number) more ∙ entries_push_own it.number before f (is_its it.number it.number f holder refl)))) in
    subst (HoldEntries after) (sym (is ∙ ap (λ (ts : List (Option Freeze)). record runs { tokens = set runs.tokens place ts }) its))
    (one_changed before after runs place greatest it holds at rising (λ n other.
    ap (entries_of n) more ∙ entries_push_other n before f (is_not_its n it.number f holder (λ e. other (sym e)))))

-- the freeze that it gives up is among its entries, whose numbers rise
pub own_found : (freezes : List Freeze) (number freeze : ℕ) (entry : Freeze) → entry_of freeze freezes ≡ Some entry → is_run number entry.holder ≡ true → entry_of freeze (entries_of number freezes) ≡ Some entry
own_found freezes number freeze entry found its = found_in_filter freeze_key (λ (x : Freeze). is_run number x.holder) freeze freezes entry found its

pub own_rise : (freezes : List Freeze) (number greatest : ℕ) → FreezesRise 0 freezes greatest → FreezesRise 0 (entries_of number freezes) greatest
own_rise freezes number greatest numbered = rising_filter freeze_key (λ (x : Freeze). is_run number x.holder) 0 freezes greatest numbered

-- without a freeze of this run the others hold what they held
others_hold : (freezes : List Freeze) (greatest freeze number : ℕ) (entry : Freeze) → FreezesRise 0 freezes greatest → entry_of freeze freezes ≡ Some entry → is_run number entry.holder ≡ true → (n : ℕ) → (n ≡ number → ⊥) → entries_of n (without freeze freezes) ≡ entries_of n freezes
others_hold freezes greatest freeze number entry numbered found its n other =
    entries_without_other n freeze 0 freezes greatest entry numbered found (other_run n number entry.holder its other)

-- it gave one up
pub gave_one_up : (before after : List Freeze) (greatest freeze : ℕ) (runs new : RunsState) (place high : ℕ) (it : LiveRun) (entry : Freeze) → HoldEntries before runs → HasRunAt runs.runs.list place it → AreRising 0 (map run_key runs.runs.list) high → FreezesRise 0 before greatest → entry_of freeze before ≡ Some entry → is_run it.number entry.holder ≡ true → ((n : ℕ) → entries_of n after ≡ entries_of n (without freeze before)) → new ≡ record runs { tokens = set runs.tokens place (tokens_of (without freeze (entries_of it.number before))) } → HoldEntries after new
gave_one_up before after greatest freeze runs new place high it entry holds at rising numbered found its fewer is =
    subst (HoldEntries after)
    (sym (is ∙ ap (λ (fs : List Freeze). record runs { tokens = set runs.tokens place (tokens_of fs) }) (sym (fewer it.number ∙ entries_without it.number freeze before))))
    (one_changed before after runs place high it holds at rising (λ n other. fewer n ∙ others_hold before greatest freeze it.number entry numbered found its n other))

-- handed over to a timer it is nobody's
pub handed_entries : (before : List Freeze) (greatest freeze due : ℕ) (entry : Freeze) → FreezesRise 0 before greatest → entry_of freeze before ≡ Some entry → (n : ℕ) → entries_of n (handed_over freeze due before) ≡ entries_of n (without freeze before)
handed_entries before greatest freeze due entry numbered found n =
    let timed : Freeze = record entry { holder = Timer due } in
    ap (entries_of n) (handed_is_put freeze due 0 before greatest entry numbered found)
    ∙ (entries_put n timed before refl ∙ ap (λ (k : ℕ). entries_of n (without k before)) (found_key freeze_key freeze before entry found))

-- it is gone
pub run_gone : (freezes : List Freeze) (runs new : RunsState) (place greatest : ℕ) (it : LiveRun) → HoldEntries freezes runs → HasRunAt runs.runs.list place it → AreRising 0 (map run_key runs.runs.list) greatest → new ≡ record { runs = record runs.runs { list = leave run_key it.number runs.runs.list }; tokens = remove runs.tokens place } → HoldEntries freezes new
run_gone freezes runs new place greatest it holds at rising is =
    let list : List LiveRun = runs.runs.list in
    subst (HoldEntries freezes) (sym is)
    (ap (λ (ts : List (List (Option Freeze))). remove ts place) holds
    ∙ (sym (map_remove (λ (x : LiveRun). own freezes x.number) list place at.within)
    ∙ ap (λ (rs : List LiveRun). map (λ (x : LiveRun). own freezes x.number) rs) (remove_is_leave run_key 0 list greatest place it.number it at.within rising (ap run_key at.here))))

-- the entries that name a run that starts, and those that name others
started_entries : (transport : Transport) (greatest : ℕ) (t : Option Freeze) → ((f : Freeze) → t ≡ Some f → f.holder ≡ Run (greatest + 1)) → entries_of (greatest + 1) transport.freezes ≡ [] → entries_of (greatest + 1) (took transport t).freezes ≡ option_to_list t
started_entries transport greatest None holder fresh = fresh
started_entries transport greatest (Some f) holder fresh =
    entries_push_own (greatest + 1) transport.freezes f (is_its (greatest + 1) (greatest + 1) f (holder f refl) refl)
    ∙ ap (λ (gs : List Freeze). gs ++ f ∷ []) fresh

other_entries : (transport : Transport) (greatest : ℕ) (t : Option Freeze) → ((f : Freeze) → t ≡ Some f → f.holder ≡ Run (greatest + 1)) → (n : ℕ) → n ≤ greatest → entries_of n (took transport t).freezes ≡ entries_of n transport.freezes
other_entries transport greatest None holder n low = refl
other_entries transport greatest (Some f) holder n low =
    entries_push_other n transport.freezes f (is_not_its n (greatest + 1) f (holder f refl) (λ e. omega (arith, e, low)))

-- one more run, with a freeze or without
pub run_started : (setup : Setup) (world : World) (runs new : RunsState) (t : Option Freeze) (it : LiveRun) → IsSound setup world → world.runs ≡ runs.runs → HoldEntries world.transport.freezes runs → ((f : Freeze) → t ≡ Some f → f.holder ≡ Run (runs.runs.greatest + 1)) → it.number ≡ runs.runs.greatest + 1 → new.runs.list ≡ runs.runs.list ++ it ∷ [] → new.tokens ≡ runs.tokens ++ tokens_of (option_to_list t) ∷ [] → HoldEntries (took world.transport t).freezes new
run_started setup world runs new t it sound same holds holder number list tokens =
    let old : List LiveRun = runs.runs.list in
    let greatest : ℕ = runs.runs.greatest in
    let after : List Freeze = (took world.transport t).freezes in
    let rising : AreRising 0 (map run_key old) greatest = subst (λ (rs : Runs). AreRising 0 (map run_key rs.list) rs.greatest) same sound.kept.runs.rising in
    let fresh : entries_of (greatest + 1) world.transport.freezes ≡ [] = subst (λ (rs : Runs). entries_of (rs.greatest + 1) world.transport.freezes ≡ []) same (not_started setup world sound) in
    let others : map (λ (x : LiveRun). own after x.number) old ≡ map (λ (x : LiveRun). own world.transport.freezes x.number) old =
    map_same (λ (x : LiveRun). own after x.number) (λ (x : LiveRun). own world.transport.freezes x.number) old it (λ j within.
    ap tokens_of (other_entries world.transport greatest t holder (get_or old j it).number (below run_key 0 old greatest j it within rising))) in
    let its : own after it.number ≡ tokens_of (option_to_list t) = ap (own after) number ∙ ap tokens_of (started_entries world.transport greatest t holder fresh) in
    tokens
    ∙ (ap (λ (ts : List (List (Option Freeze))). ts ++ tokens_of (option_to_list t) ∷ []) holds
    ∙ ((λ i. sym others i ++ sym its i ∷ [])
    ∙ (sym (map_push (λ (x : LiveRun). own after x.number) old it) ∙ ap (λ (rs : List LiveRun). map (λ (x : LiveRun). own after x.number) rs) (sym list))))
