-- The clock goes on, and a freeze that a timer holds goes by a clock reading and by nothing else.
use Rattle.std.proofs.Common.{◌≡◌, ℕ, ◌≤◌, List, [], ◌∷◌, ◌++◌, ◌+◌, length, true, false, not, leb, Option, Some, None, inl, inr, refl, ap, sym, subst, ◌∙◌, arith}
use Rattle.std.specs.Prelude.{IfSome}
use Rattle.std.proofs.lemmas.Bool.{cases_Bool, cond-true, cond-false, not_from_true, not_from_false}
use Rattle.freeze_ledger.specs.declared.freeze.Holder.{Holder}
use Rattle.freeze_ledger.specs.declared.freeze.Holder.TheVariants.{Timer}
use Rattle.freeze_ledger.specs.declared.freeze.Freeze.{Freeze}
use Rattle.freeze_ledger.specs.Freezes.{entry_of, without, is_due, due_at, not_due_at}
use Rattle.world.specs.Capacities.{last_reading}
use Rattle.world.specs.World.{Setup, World, beginning, beginning_of, version_of}
use Rattle.world.specs.Beginning.{IsBeginning}
use Rattle.world_calls.specs.declared.call_answer.CallAnswer.TheVariants as answers
use Rattle.world_calls.specs.declared.start.Start.{Start}
use Rattle.world_calls.specs.declared.trace.Version.{Version}
use Rattle.world_calls.specs.declared.trace.Version.TheVariants.{One, Three, Two}
use Rattle.world_calls.specs.Answered.{started_answer}
use Rattle.world.specs.Event.{Event, Reply, replies}
use Rattle.world.specs.FreezeSteps.{is_guest}
use Rattle.world.specs.RunSteps.{is_run}
use Rattle.world.specs.WorldRun.{Leads}
use Rattle.world.specs.Laws.ClockLaws.{ClockGoesOn, lets_go, KeepsTime, TimersKeepTime}
use Rattle.world.proofs.Lists.Found.{put, found_key, found_push, found_in_filter, put_other, leave_other}
use Rattle.world.proofs.Lists.Rising.{filtered_out}
use Rattle.world.proofs.Lists.Entries.{freeze_key, handed_is_put}
use Rattle.world_laws.proofs.Steps.Does.{FreezeDeed, leaves_freezes, takes_one, gives_one_back, hands_one_over}
use Rattle.world_laws.proofs.Steps.Calls.{Asks}
use Rattle.world_laws.proofs.Steps.Cases.{ReadsClock, Case, case_of, refuses, submits, dispatches, finishes_one, withdraws_one, recovers_one, recovers_unfrozen, freezes_one, releases_one, reads_clock, turns_one, goes_on_one, asks_one, exits}
use Rattle.world.proofs.Steps.Moves.{KeepsLists}
use Rattle.world.proofs.Steps.Answering.{moved_on}
use Rattle.world_laws.proofs.Steps.Effects.{effect_of}
use Rattle.world_laws.proofs.Kept.{step_keeps, beginning_keeps}
use Rattle.world_laws.proofs.Leads.{lists_are_kept}

leads_on : (setup : Setup) (before : World) (xs : List (Event × Reply)) (after : World) → KeepsLists setup before → Leads setup before xs after → before.transport.clock ≤ last_reading → (before.transport.clock ≤ after.transport.clock) × (after.transport.clock ≤ last_reading)
leads_on setup before [] after kept run within =
    let same : before.transport.clock ≡ after.transport.clock = ap (λ (w : World). w.transport.clock) run in
    (omega (arith, same), rw (← same) within)
leads_on setup before (x ∷ xs) after kept run within =
    let first = moved_on before run.0 (effect_of setup before x.0 x.1 run.0 kept (case_of setup before x.0 x.1 run.0 run.1)).answers.clock within in
    let rest = leads_on setup run.0 xs after (step_keeps setup before x.0 x.1 run.0 run.1 kept) run.2 first.1 in
    (omega (arith, first.0, rest.0), rest.1)

pub clock_goes_on : ClockGoesOn
clock_goes_on setup xs ys before after first second =
    let begun = leads_on setup (beginning setup) xs before (beginning_keeps setup first.0) first.1 (begins_within setup.carried first.0) in
    leads_on setup before ys after (lists_are_kept setup xs before first) second begun.1
  where
    begins_within : (carried : Option World) → IfSome carried (IsBeginning setup) → (beginning_of setup carried).transport.clock ≤ last_reading
    begins_within None begins = omega arith
    begins_within (Some world) begins = begins.limits.answers.clock

-- an event that lets nothing go leaves a timer's freeze, where the freezes are as they were, or one is more
as_before : (before : World) (event : Event) (reply : Reply) (after : World) → ((due : ℕ) → lets_go due reply event ≡ false) → after.transport.freezes ≡ before.transport.freezes → KeepsTime before event reply after
as_before before event reply after calm e =
    λ freeze due found timer.
    ap (entry_of freeze.number) e ∙ (found ∙ sym (cond-false (lets_go due reply event) None (Some freeze) (calm due)))

one_more : (before : World) (event : Event) (reply : Reply) (after : World) (new : Freeze) → ((due : ℕ) → lets_go due reply event ≡ false) → after.transport.freezes ≡ before.transport.freezes ++ new ∷ [] → KeepsTime before event reply after
one_more before event reply after new calm e =
    λ freeze due found timer.
    ap (entry_of freeze.number) e
    ∙ (found_push freeze_key freeze.number before.transport.freezes new freeze found ∙ sym (cond-false (lets_go due reply event) None (Some freeze) (calm due)))

-- what no timer holds is not what a timer holds
other_one : (before : World) (number : ℕ) (it : Freeze) → entry_of number before.transport.freezes ≡ Some it → ((due : ℕ) → it.holder ≡ Timer due → ⊥) → (freeze : Freeze) (due : ℕ) → entry_of freeze.number before.transport.freezes ≡ Some freeze → freeze.holder ≡ Timer due → number ≡ freeze.number → ⊥
other_one before number it entry others freeze due found timer same =
    let both : Some it ≡ Some freeze = sym entry ∙ (ap (λ (n : ℕ). entry_of n before.transport.freezes) same ∙ found) in
    let is : it ≡ freeze = cc in
    others due (ap (λ (f : Freeze). f.holder) is ∙ timer)

-- or one is gone that no timer holds
one_fewer : (before : World) (event : Event) (reply : Reply) (after : World) (number : ℕ) (gone : Freeze) → ((due : ℕ) → lets_go due reply event ≡ false) → after.transport.freezes ≡ without number before.transport.freezes → entry_of number before.transport.freezes ≡ Some gone → ((due : ℕ) → gone.holder ≡ Timer due → ⊥) → KeepsTime before event reply after
one_fewer before event reply after number gone calm e entry others =
    λ freeze due found timer.
    ap (entry_of freeze.number) e
    ∙ (leave_other freeze_key number freeze.number before.transport.freezes (other_one before number gone entry others freeze due found timer)
    ∙ (found ∙ sym (cond-false (lets_go due reply event) None (Some freeze) (calm due))))

-- or one has another holder now, and no timer held it
one_changed : (before : World) (event : Event) (reply : Reply) (after : World) (old new : Freeze) → ((due : ℕ) → lets_go due reply event ≡ false) → after.transport.freezes ≡ put freeze_key new before.transport.freezes → entry_of new.number before.transport.freezes ≡ Some old → ((due : ℕ) → old.holder ≡ Timer due → ⊥) → KeepsTime before event reply after
one_changed before event reply after old new calm e entry others =
    λ freeze due found timer.
    ap (entry_of freeze.number) e
    ∙ (put_other freeze_key new freeze.number before.transport.freezes (other_one before new.number old entry others freeze due found timer)
    ∙ (found ∙ sym (cond-false (lets_go due reply event) None (Some freeze) (calm due))))

guests_no_timer : (holder : Holder) → is_guest holder ≡ true → (due : ℕ) → holder ≡ Timer due → ⊥
guests_no_timer holder guests due timer = let bad : false ≡ true = sym (ap is_guest timer) ∙ guests in cc

runs_no_timer : (run : ℕ) (holder : Holder) → is_run run holder ≡ true → (due : ℕ) → holder ≡ Timer due → ⊥
runs_no_timer run holder held due timer = let bad : false ≡ true = sym (ap (is_run run) timer) ∙ held in cc

-- a clock reading lets go what is due
by_the_clock : (setup : Setup) (before : World) (event : Event) (reply : Reply) (after : World) → KeepsLists setup before → ReadsClock before event reply after → KeepsTime before event reply after
by_the_clock setup before event reply after kept it = λ freeze due found timer.
    let tests : lets_go due reply event ≡ leb due it.reading = ap (λ (r : Reply). lets_go due r event) it.reply_is ∙ ap (lets_go due (replies (answers.Removed (length (due_at it.reading before.transport.freezes))))) it.event_is in
    let is : is_due it.reading freeze.holder ≡ leb due it.reading = ap (is_due it.reading) timer in
    let rest : entry_of freeze.number after.transport.freezes ≡ entry_of freeze.number (not_due_at it.reading before.transport.freezes) = ap (λ (w : World). entry_of freeze.number w.transport.freezes) it.after_is in
    elim (cases_Bool (leb due it.reading)) [
      | inl reached ↦
          rest
          ∙ (filtered_out freeze_key (λ (f : Freeze). not (is_due it.reading f.holder)) 0 before.transport.freezes before.transport.greatest_freeze freeze.number freeze kept.freezes.numbered found (not_from_true _ (is ∙ reached))
          ∙ sym (cond-true (lets_go due reply event) None (Some freeze) (tests ∙ reached)))
      | inr later ↦
          rest
          ∙ (found_in_filter freeze_key (λ (f : Freeze). not (is_due it.reading f.holder)) freeze.number before.transport.freezes freeze found (not_from_false _ (is ∙ later))
          ∙ sym (cond-false (lets_go due reply event) None (Some freeze) (tests ∙ later)))
    ]

-- a call of a helper lets nothing go that a timer holds
by_a_call : (setup : Setup) (before : World) (event : Event) (reply : Reply) (after : World) → KeepsLists setup before → (it : Asks setup before event reply after) → FreezeDeed setup before it.it.run it.request it.given it.between → KeepsTime before event reply after
by_a_call setup before event reply after kept it (leaves_freezes effect) = as_before before event reply after (λ due. ap (λ (x : Reply × World). lets_go due x.0 event) it.answer) (ap (λ (x : Reply × World). x.1.transport.freezes) it.answer ∙ effect.freezes_is)
by_a_call setup before event reply after kept it (takes_one effect) = one_more before event reply after _ (λ due. ap (λ (x : Reply × World). lets_go due x.0 event) it.answer) (ap (λ (x : Reply × World). x.1.transport.freezes) it.answer ∙ effect.freezes_is)
by_a_call setup before event reply after kept it (gives_one_back effect) =
    one_fewer before event reply after it.request.arguments.first effect.freeze (λ due. ap (λ (x : Reply × World). lets_go due x.0 event) it.answer) (ap (λ (x : Reply × World). x.1.transport.freezes) it.answer ∙ effect.freezes_is) effect.entry (runs_no_timer it.it.run.number effect.freeze.holder effect.its)
by_a_call setup before event reply after kept it (hands_one_over effect) =
    let old : Freeze = effect.freeze in
    let due : ℕ = before.transport.clock + it.request.arguments.second in
    one_changed before event reply after old (record old { holder = Timer due }) (λ due. ap (λ (x : Reply × World). lets_go due x.0 event) it.answer)
    (ap (λ (x : Reply × World). x.1.transport.freezes) it.answer ∙ (effect.freezes_is ∙ handed_is_put it.request.arguments.first due 0 before.transport.freezes before.transport.greatest_freeze old kept.freezes.numbered effect.entry))
    (subst (λ (n : ℕ). entry_of n before.transport.freezes ≡ Some old) (sym (found_key freeze_key it.request.arguments.first before.transport.freezes old effect.entry)) effect.entry)
    (runs_no_timer it.it.run.number old.holder effect.its)

-- a start lets nothing go
start_lets_none_go : (due : ℕ) (version : Version) (start : Start) (event : Event) → lets_go due (replies (started_answer version start)) event ≡ false
start_lets_none_go due One start event = refl
start_lets_none_go due Two start event = refl
start_lets_none_go due Three start event = refl

case_keeps_time : (setup : Setup) (before : World) (event : Event) (reply : Reply) (after : World) → KeepsLists setup before → Case setup before event reply after → KeepsTime before event reply after
case_keeps_time setup before event reply after kept (refuses it) = as_before before event reply after (λ due. ap (λ (r : Reply). lets_go due r event) it.reply_is) (ap (λ (w : World). w.transport.freezes) it.after_is)
case_keeps_time setup before event reply after kept (submits it) = as_before before event reply after (λ due. ap (λ (r : Reply). lets_go due r event) it.reply_is) (ap (λ (w : World). w.transport.freezes) it.after_is)
case_keeps_time setup before event reply after kept (dispatches it) =
    as_before before event reply after
    (λ due. ap (λ (r : Reply). lets_go due r event) it.reply_is ∙ start_lets_none_go due (version_of setup) (record { ccb = it.next.ccb.number; advice = it.next.ccb.advice }) event) (ap (λ (w : World). w.transport.freezes) it.after_is)
case_keeps_time setup before event reply after kept (finishes_one it) = as_before before event reply after (λ due. ap (λ (r : Reply). lets_go due r event) it.reply_is) (ap (λ (w : World). w.transport.freezes) it.after_is)
case_keeps_time setup before event reply after kept (withdraws_one it) = as_before before event reply after (λ due. ap (λ (r : Reply). lets_go due r event) it.reply_is) (ap (λ (w : World). w.transport.freezes) it.after_is)
case_keeps_time setup before event reply after kept (recovers_one it) = one_more before event reply after _ (λ due. ap (λ (x : Reply × World). lets_go due x.0 event) it.starts_is) (ap (λ (x : Reply × World). x.1.transport.freezes) it.starts_is)
case_keeps_time setup before event reply after kept (recovers_unfrozen it) = as_before before event reply after (λ due. ap (λ (x : Reply × World). lets_go due x.0 event) it.starts_is) (ap (λ (x : Reply × World). x.1.transport.freezes) it.starts_is)
case_keeps_time setup before event reply after kept (freezes_one it) = one_more before event reply after _ (λ due. ap (λ (r : Reply). lets_go due r event) it.reply_is) (ap (λ (w : World). w.transport.freezes) it.after_is)
case_keeps_time setup before event reply after kept (releases_one it) =
    one_fewer before event reply after it.number it.freeze (λ due. ap (λ (r : Reply). lets_go due r event) it.reply_is) (ap (λ (w : World). w.transport.freezes) it.after_is) it.entry (guests_no_timer it.freeze.holder it.guests)
case_keeps_time setup before event reply after kept (reads_clock it) = by_the_clock setup before event reply after kept it
case_keeps_time setup before event reply after kept (turns_one it) = as_before before event reply after (λ due. ap (λ (r : Reply). lets_go due r event) it.reply_is) (ap (λ (w : World). w.transport.freezes) it.after_is)
case_keeps_time setup before event reply after kept (goes_on_one it) = as_before before event reply after (λ due. ap (λ (r : Reply). lets_go due r event) it.reply_is) (ap (λ (w : World). w.transport.freezes) it.after_is)
case_keeps_time setup before event reply after kept (asks_one it) = by_a_call setup before event reply after kept it it.freezes
case_keeps_time setup before event reply after kept (exits it) = as_before before event reply after (λ due. ap (λ (r : Reply). lets_go due r event) it.reply_is) (ap (λ (w : World). w.transport.freezes) it.after_is)

pub timers_keep_time : TimersKeepTime
timers_keep_time setup xs before run event reply after e = case_keeps_time setup before event reply after (lists_are_kept setup xs before run) (case_of setup before event reply after e)
