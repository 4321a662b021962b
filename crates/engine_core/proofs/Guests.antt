-- The freezes of guests: none but a guest's own calls change them, and they are found by number.
use Rattle.std.proofs.Common.{◌≡◌, ℕ, zero, suc, ◌+◌, ◌<◌, List, [], ◌∷◌, ◌++◌, replicate, length, get_or, ◌⊎◌, Bool, true, false, not, eqb, Some, None, Contains, inl, inr, refl, ap, sym, subst, ◌∙◌, arith, append-nil}
use Rattle.std.specs.List.{filter}
use Rattle.std.proofs.lemmas.Bool.{cases_Bool, cases_eq, ne_eqb, not_from_true, not_from_false}
use Rattle.std.proofs.lemmas.List.Elements.{filter-append, filter_passes, All-contains}
use Rattle.freeze_ledger.specs.declared.freeze.Holder.{Holder}
use Rattle.freeze_ledger.specs.declared.freeze.Holder.TheVariants.{Run, Timer, Guest}
use Rattle.freeze_ledger.specs.declared.freeze.Freeze.{Freeze}
use Rattle.freeze_ledger.specs.Freezes.{entry_of, without, is_due, handed_over}
use Rattle.world_calls.specs.declared.call.Call.TheVariants.{GuestFreeze, GuestRelease}
use Rattle.world.specs.World.{Setup, World}
use Rattle.world.specs.Event.{private, Event, called, executes, Reply, went_on}
use Rattle.world.specs.FreezeSteps.{is_guest}
use Rattle.world.specs.RunSteps.{is_run}
use Rattle.world.specs.WorldRun.{Leads}
use Rattle.world.specs.Flat.{advance_of}
use Rattle.world.proofs.Lists.Found.{put, at_head, at_tail, found_key, put_head, put_tail, leave_head, leave_tail, filter_yes, filter_no, filter_swap, found_in_filter}
use Rattle.world.proofs.Lists.Rising.{rising_filter}
use Rattle.world.proofs.Lists.Entries.{FreezesRise, freeze_key, entry_bounds, handed_is_put}
use Rattle.world.proofs.Steps.Moves.{KeepsLists}
use Rattle.world_laws.proofs.Kept.{step_keeps}
use Rattle.world_laws.proofs.Steps.Does.{FreezeDeed, leaves_freezes, takes_one, gives_one_back, hands_one_over}
use Rattle.world_laws.proofs.Steps.Calls.{Asks}
use Rattle.world_laws.proofs.Steps.Cases.{Case, case_of, refuses, submits, dispatches, finishes_one, withdraws_one, recovers_one, recovers_unfrozen, freezes_one, releases_one, reads_clock, turns_one, goes_on_one, asks_one, exits}
use Rattle.world_calls.specs.declared.record.StoppedAt.{StoppedAt}
use Rattle.engine_core.specs.ByNumber.{AreTokens, guests_of}

abbrev its_guest : Freeze → Bool
its_guest freeze = is_guest freeze.holder

head : (g : Freeze) (fs : List Freeze) → is_guest g.holder ≡ true → guests_of (g ∷ fs) ≡ g ∷ guests_of fs
head g fs e = filter_yes freeze_key its_guest g fs e

tail : (g : Freeze) (fs : List Freeze) → is_guest g.holder ≡ false → guests_of (g ∷ fs) ≡ guests_of fs
tail g fs e = filter_no freeze_key its_guest g fs e

run_is_none : (run : ℕ) (holder : Holder) → is_run run holder ≡ true → is_guest holder ≡ false
run_is_none run (Run other) its = refl
run_is_none run (Timer due) its = refl
run_is_none run (Guest guest) its = absurd (let bad : false ≡ true = its in cc)

guest_is_never_due : (reading : ℕ) (holder : Holder) → is_guest holder ≡ true → is_due reading holder ≡ false
guest_is_never_due reading (Run other) its = absurd (let bad : false ≡ true = its in cc)
guest_is_never_due reading (Timer due) its = absurd (let bad : false ≡ true = its in cc)
guest_is_never_due reading (Guest guest) its = refl

-- one more
pub guest_entered : (fs : List Freeze) (f : Freeze) → is_guest f.holder ≡ true → guests_of (fs ++ f ∷ []) ≡ guests_of fs ++ f ∷ []
guest_entered fs f e = filter-append its_guest fs (f ∷ []) ∙ ap (λ (gs : List Freeze). guests_of fs ++ gs) (head f [] e)

other_entered : (fs : List Freeze) (f : Freeze) → is_guest f.holder ≡ false → guests_of (fs ++ f ∷ []) ≡ guests_of fs
other_entered fs f e = filter-append its_guest fs (f ∷ []) ∙ (ap (λ (gs : List Freeze). guests_of fs ++ gs) (tail f [] e) ∙ append-nil (guests_of fs))

-- one fewer
pub guest_left : (n : ℕ) (fs : List Freeze) → guests_of (without n fs) ≡ without n (guests_of fs)
guest_left n fs = filter_swap freeze_key its_guest (λ (f : Freeze). not (eqb f.number n)) fs

-- some fewer, of which none is a guest's
kept : (low : ℕ) (fs : List Freeze) (high : ℕ) (gone : Freeze → Bool) → FreezesRise low fs high → ((n : ℕ) (f : Freeze) → entry_of n fs ≡ Some f → is_guest f.holder ≡ true → gone f ≡ false) → guests_of (filter (λ f. not (gone f)) fs) ≡ guests_of fs
kept low [] high gone h keep = refl
kept low (g ∷ fs) high gone h keep =
    let rest = kept g.number fs high gone h.1 (λ n f entry its.
    keep n f (at_tail freeze_key n g fs (λ e. let up = entry_bounds g.number fs high n f h.1 entry in omega (arith, e, up.1)) ∙ entry) its) in
    elim (cases_Bool (gone g)) [
      | inl goes ↦
          let apart : is_guest g.holder ≡ false = elim (cases_Bool (is_guest g.holder)) [
            | inl its ↦ absurd (let bad : false ≡ true = sym (keep g.number g (at_head freeze_key g.number g fs refl) its) ∙ goes in cc)
            | inr other ↦ other
          ] in
          ap guests_of (filter_no freeze_key (λ (f : Freeze). not (gone f)) g fs (not_from_true _ goes)) ∙ (rest ∙ sym (tail g fs apart))
      | inr stays ↦
          ap guests_of (filter_yes freeze_key (λ (f : Freeze). not (gone f)) g fs (not_from_false _ stays))
          ∙ elim (cases_Bool (is_guest g.holder)) [
            | inl its ↦ head g (filter (λ (f : Freeze). not (gone f)) fs) its ∙ (ap (λ (gs : List Freeze). g ∷ gs) rest ∙ sym (head g fs its))
            | inr other ↦ tail g (filter (λ (f : Freeze). not (gone f)) fs) other ∙ (rest ∙ sym (tail g fs other))
          ]
    ]

other_left : (n low : ℕ) (fs : List Freeze) (high : ℕ) (f : Freeze) → FreezesRise low fs high → entry_of n fs ≡ Some f → is_guest f.holder ≡ false → guests_of (without n fs) ≡ guests_of fs
other_left n low fs high f h entry e =
    kept low fs high (λ (g : Freeze). eqb g.number n) h (λ m g there its. ne_eqb _ _ (λ same.
    let named : g.number ≡ m = found_key freeze_key m fs g there in
    let both : Some g ≡ Some f = sym there ∙ (ap (λ (k : ℕ). entry_of k fs) (sym named ∙ same) ∙ entry) in
    let is : g ≡ f = cc in
    let bad : true ≡ false = sym (subst (λ (x : Freeze). is_guest x.holder ≡ true) is its) ∙ e in cc))

-- one that gets another holder, which is no guest, is one fewer
other_holds : (new : Freeze) (fs : List Freeze) → is_guest new.holder ≡ false → guests_of (put freeze_key new fs) ≡ guests_of (without new.number fs)
other_holds new [] e = refl
other_holds new (g ∷ fs) e =
    let rest = other_holds new fs e in
    elim (cases_eq g.number new.number) [
      | inl same ↦
          ap guests_of (put_head freeze_key new g fs same)
          ∙ (tail new (put freeze_key new fs) e ∙ (rest ∙ sym (ap guests_of (leave_head freeze_key new.number g fs same))))
      | inr apart ↦
          ap guests_of (put_tail freeze_key new g fs apart)
          ∙ (elim (cases_Bool (is_guest g.holder)) [
            | inl its ↦ head g (put freeze_key new fs) its ∙ (ap (λ (gs : List Freeze). g ∷ gs) rest ∙ sym (head g (without new.number fs) its))
            | inr other ↦ tail g (put freeze_key new fs) other ∙ (rest ∙ sym (tail g (without new.number fs) other))
          ]
          ∙ sym (ap guests_of (leave_tail freeze_key new.number g fs apart)))
    ]

handed : (n due low : ℕ) (fs : List Freeze) (high : ℕ) (f : Freeze) → FreezesRise low fs high → entry_of n fs ≡ Some f → is_guest f.holder ≡ false → guests_of (handed_over n due fs) ≡ guests_of fs
handed n due low fs high f h entry e =
    let named : f.number ≡ n = found_key freeze_key n fs f entry in
    ap guests_of (handed_is_put n due low fs high f h entry)
    ∙ (other_holds (record f { holder = Timer due }) fs refl
    ∙ (ap (λ (k : ℕ). guests_of (without k fs)) named ∙ other_left n low fs high f h entry e))

-- ---- over the steps of the world

-- an event that is no guest's
abbrev pub IsOthers : Event → Type 0
IsOthers (called (GuestFreeze place guest)) = ⊥
IsOthers (called (GuestRelease freeze)) = ⊥
IsOthers event = Unit {0}

deed_keeps : (setup : Setup) (before : World) (event : Event) (reply : Reply) (after : World) (it : Asks setup before event reply after) → KeepsLists setup before → FreezeDeed setup before it.it.run it.request it.given it.between → guests_of it.between.transport.freezes ≡ guests_of before.transport.freezes
deed_keeps setup before event reply after it lists (leaves_freezes c) = ap guests_of c.freezes_is
deed_keeps setup before event reply after it lists (takes_one c) = ap guests_of c.freezes_is ∙ other_entered before.transport.freezes _ refl
deed_keeps setup before event reply after it lists (gives_one_back c) =
    ap guests_of c.freezes_is ∙ other_left it.request.arguments.first 0 before.transport.freezes before.transport.greatest_freeze c.freeze lists.freezes.numbered c.entry (run_is_none it.it.run.number c.freeze.holder c.its)
deed_keeps setup before event reply after it lists (hands_one_over c) =
    ap guests_of c.freezes_is ∙ handed it.request.arguments.first (before.transport.clock + it.request.arguments.second) 0 before.transport.freezes before.transport.greatest_freeze c.freeze lists.freezes.numbered c.entry (run_is_none it.it.run.number c.freeze.holder c.its)

case_keeps : (setup : Setup) (before : World) (event : Event) (reply : Reply) (after : World) → KeepsLists setup before → IsOthers event → Case setup before event reply after → guests_of after.transport.freezes ≡ guests_of before.transport.freezes
case_keeps setup before event reply after lists others (refuses c) = ap (λ (w : World). guests_of w.transport.freezes) c.after_is
case_keeps setup before event reply after lists others (submits c) = ap (λ (w : World). guests_of w.transport.freezes) c.after_is
case_keeps setup before event reply after lists others (dispatches c) = ap (λ (w : World). guests_of w.transport.freezes) c.after_is
case_keeps setup before event reply after lists others (finishes_one c) = ap (λ (w : World). guests_of w.transport.freezes) c.after_is
case_keeps setup before event reply after lists others (withdraws_one c) = ap (λ (w : World). guests_of w.transport.freezes) c.after_is
case_keeps setup before event reply after lists others (recovers_one c) =
    ap (λ (x : Reply × World). guests_of x.1.transport.freezes) c.starts_is ∙ other_entered before.transport.freezes _ refl
case_keeps setup before event reply after lists others (recovers_unfrozen c) = ap (λ (x : Reply × World). guests_of x.1.transport.freezes) c.starts_is
case_keeps setup before event reply after lists others (freezes_one c) = absurd (subst IsOthers c.event_is others)
case_keeps setup before event reply after lists others (releases_one c) = absurd (subst IsOthers c.event_is others)
case_keeps setup before event reply after lists others (reads_clock c) =
    ap (λ (w : World). guests_of w.transport.freezes) c.after_is
    ∙ kept 0 before.transport.freezes before.transport.greatest_freeze (λ (f : Freeze). is_due c.reading f.holder) lists.freezes.numbered (λ n f entry its. guest_is_never_due c.reading f.holder its)
case_keeps setup before event reply after lists others (turns_one c) = ap (λ (w : World). guests_of w.transport.freezes) c.after_is
case_keeps setup before event reply after lists others (goes_on_one c) = ap (λ (w : World). guests_of w.transport.freezes) c.after_is
case_keeps setup before event reply after lists others (asks_one c) =
    ap (λ (x : Reply × World). guests_of x.1.transport.freezes) c.answer ∙ deed_keeps setup before event reply after c lists c.freezes
case_keeps setup before event reply after lists others (exits c) = ap (λ (w : World). guests_of w.transport.freezes) c.after_is

abbrev pub AreOthers : List (Event × Reply) → Type 0
AreOthers [] = Unit {0}
AreOthers (x ∷ xs) = IsOthers x.0 × AreOthers xs

-- events of others leave the guests' freezes as they are
pub guests_stay : (setup : Setup) (before : World) (xs : List (Event × Reply)) (after : World) → KeepsLists setup before → AreOthers xs → Leads setup before xs after → guests_of after.transport.freezes ≡ guests_of before.transport.freezes
guests_stay setup before [] after lists others run = ap (λ (w : World). guests_of w.transport.freezes) (sym run)
guests_stay setup before (x ∷ xs) after lists others run =
    guests_stay setup run.0 xs after (step_keeps setup before x.0 x.1 run.0 run.1 lists) others.1 run.2
    ∙ case_keeps setup before x.0 x.1 run.0 lists others.0 (case_of setup before x.0 x.1 run.0 run.1)

-- so do those of a run
its_steps : (run n : ℕ) (last : Event × Reply) → IsOthers last.0 → AreOthers (replicate n (executes run private, went_on) ++ last ∷ [])
its_steps run zero last other = (other, tt)
its_steps run (suc n) last other = (tt, its_steps run n last other)

pub advance_is_others : (run instructions : ℕ) (stop : StoppedAt) (r0 : ℕ) → AreOthers (advance_of run instructions stop r0)
advance_is_others run zero stop r0 = (tt, tt)
advance_is_others run (suc before) stop r0 = its_steps run before _ tt

-- ---- found by number

pub tokens_rise : (fs : List Freeze) (greatest : ℕ) → FreezesRise 0 fs greatest → AreTokens (guests_of fs)
tokens_rise fs greatest h = (greatest, rising_filter freeze_key its_guest 0 fs greatest h)

-- a guest's freeze is one, and a guest's
first_or_later : (g : Freeze) (fs : List Freeze) (f : Freeze) (k : ℕ) → k < length (g ∷ fs) → get_or (g ∷ fs) k f ≡ f → (g ≡ f) ⊎ Contains fs f
first_or_later g fs f zero within is = inl is
first_or_later g fs f (suc k) within is = inr (k, omega (arith, within), is)

later : (g : Freeze) (fs : List Freeze) (f : Freeze) → Contains fs f → Contains (g ∷ fs) f
later g fs f there = (suc there.0, omega (arith, there.1), there.2)

among : (fs : List Freeze) (f : Freeze) → Contains (guests_of fs) f → Contains fs f
among [] f there = absurd (omega (arith, there.1))
among (g ∷ fs) f there =
    elim (cases_Bool (is_guest g.holder)) [
      | inl its ↦
          let here : Contains (g ∷ guests_of fs) f = subst (λ (gs : List Freeze). Contains gs f) (head g fs its) there in
          elim (first_or_later g (guests_of fs) f here.0 here.1 here.2) [
            | inl is ↦ (zero, omega arith, is)
            | inr rest ↦ later g fs f (among fs f rest)
          ]
      | inr other ↦ later g fs f (among fs f (subst (λ (gs : List Freeze). Contains gs f) (tail g fs other) there))
    ]

pub guest_among : (fs : List Freeze) (f : Freeze) → Contains (guests_of fs) f → Contains fs f × (is_guest f.holder ≡ true)
guest_among fs f there = (among fs f there, All-contains (λ (g : Freeze). is_guest g.holder ≡ true) (guests_of fs) f (filter_passes its_guest fs) there)

-- where no token has the number, no guest holds a freeze of it
pub none_held : (n : ℕ) (fs : List Freeze) → entry_of n (guests_of fs) ≡ None → (f : Freeze) → entry_of n fs ≡ Some f → is_guest f.holder ≡ true → ⊥
none_held n fs none f entry its =
    let bad : None ≡ Some f = sym none ∙ found_in_filter freeze_key its_guest n fs f entry its in cc
