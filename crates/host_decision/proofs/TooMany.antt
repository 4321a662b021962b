-- A run has no more stops than it has instructions: each advance is of one at least.
use Rattle.std.proofs.Common.{◌≡◌, ℕ, zero, suc, ◌+◌, ◌<◌, ◌≤◌, List, [], ◌∷◌, ◌++◌, Bool, true, Some, None, length, replicate, eqb, ◌⊎◌, refl, ap, sym, subst, arith, inl, inr}
use Rattle.std.specs.Prelude.{All, cond, count_by, is_some, sum_by}
use Rattle.std.proofs.lemmas.Bool.{cond-true, eq-eqb}
use Rattle.std.proofs.lemmas.List.Sums.{sum_by-append, sum_by_push}
use Rattle.std.proofs.lemmas.List.{get_or_past}
use Rattle.ccb.specs.Completion.{Outcome}
use Rattle.world_calls.specs.declared.carried_line.CarriedLine.{CarriedLine}
use Rattle.world_calls.specs.declared.record.Record.{Record}
use Rattle.world_calls.specs.declared.record.Record.TheVariants.{Advance}
use Rattle.world_calls.specs.declared.record.StoppedAt.{StoppedAt}
use Rattle.world.specs.Capacities.{most_instructions}
use Rattle.world.specs.Event.{Instruction, Event, Reply, executes, private, result, went_on}
use Rattle.world.specs.Flat.{advance_of, events_of, flat, stop_of}
use Rattle.world.specs.Lawful.{IsLawful, IsLawfulQueue}
use Rattle.world.specs.Laws.Headline.{StartedRun, WithinBudget, is_step_of, steps_of}
use Rattle.world.specs.World.{QueueSetup, Setup, World, beginning, no_queue, queue_count, queue_setup}
use Rattle.world.specs.WorldRun.{WorldRun}
use Rattle.world_laws.proofs.Over.{lawful_over}
use Rattle.engine_core.specs.ByNumber.{IsAdvanceOf, NumberedState}
use Rattle.engine_core.specs.Settings.{setup_over}
use Rattle.host_decision.specs.Ran.{IsLedTo, failed}
use Rattle.host_decision.specs.declared.ran.TheConstants.{MORE_STOPS}

module _ {X : Type 0} (p : X → Bool) where
  abbrev counted : X → ℕ
  counted x = cond (p x) 1 0

  counted-append : (xs ys : List X) → count_by p (xs ++ ys) ≡ count_by p xs + count_by p ys
  counted-append xs ys = sum_by-append counted xs ys

  counted-one : (x : X) → p x ≡ true → 1 ≤ count_by p (x ∷ [])
  counted-one x holds =
      let none : sum_by counted [] ≡ 0 = refl in
      omega (arith, none, sum_by_push counted [] x, cond-true {A = ℕ} (p x) 1 0 holds)

-- an instruction of a run is a step of it
is_its_step : (run : ℕ) (instruction : Instruction) → is_step_of run (executes run instruction) ≡ true
is_its_step run instruction = ap is_some (cond-true (eqb run run) (Some instruction) None (eq-eqb _ _ refl))

abbrev is_step : ℕ → Event × Reply → Bool
is_step run x = is_step_of run x.0

one_step : (run instructions : ℕ) (stop : StoppedAt) (r0 : ℕ) → 1 ≤ steps_of run (advance_of run instructions stop r0)
one_step run zero stop r0 = counted-one (is_step run) (executes run (stop_of stop), went_on) (is_its_step run (stop_of stop))
one_step run (suc before) stop r0 =
    omega (
      arith,
      counted-append (is_step run) (replicate before (executes run private, went_on)) ((executes run (stop_of stop), result r0) ∷ []),
      counted-one (is_step run) (executes run (stop_of stop), result r0) (is_its_step run (stop_of stop)),
    )

-- so each advance is at least one step
steps_enough : (run : ℕ) (advances : List Record) → All (IsAdvanceOf run) advances → length advances ≤ steps_of run (flat advances)
steps_enough run [] are = omega arith
steps_enough run (told ∷ more) are =
    let first : IsAdvanceOf run told = are 0 told (omega arith) in
    let others : All (IsAdvanceOf run) more = λ k d below. are (suc k) d (omega (arith, below)) in
    let one : 1 ≤ steps_of run (events_of told) = subst (λ (r : Record). 1 ≤ steps_of run (events_of r)) (sym first.is) (one_step run first.instructions first.stop first.r0) in
    omega (arith, one, steps_enough run more others, counted-append (is_step run) (events_of told) (flat more))

-- no queue has a greater budget
few_instructions : (setup : Setup) → IsLawful setup → (queue : ℕ) → (queue_setup setup queue).budget ≤ most_instructions
few_instructions setup lawful queue = elim (split (queue_count setup) queue) [
  | inl there ↦ (lawful.queues queue no_queue there).budget
  | inr past ↦ subst (λ (q : QueueSetup). q.budget ≤ most_instructions) (sym (get_or_past setup.queues queue no_queue past)) (omega arith)
]
  where
    split : (n k : ℕ) → (k < n) ⊎ (n ≤ k)
    split zero k = inr (omega arith)
    split (suc n) zero = inl (omega arith)
    split (suc n) (suc k) = elim (split n k) [
      | inl less ↦ inl (omega (arith, less))
      | inr more ↦ inr (omega (arith, more))
    ]

-- a run does not go on so far
pub too_many : (config : Setup) (lines : List CarriedLine) (outcome : Outcome) (run freeze : ℕ) (advances : List Record) (engine : NumberedState) → WithinBudget → IsLawful config
    → IsLedTo config lines (failed outcome run freeze ∷ advances) engine → All (IsAdvanceOf run) advances → length advances ≡ MORE_STOPS → ⊥
too_many config lines outcome run freeze advances engine within lawful led are many =
    let setup = setup_over config (Some led.world) in
    let its = lawful_over config (Some led.world) lawful in
    let leads : WorldRun setup (flat (failed outcome run freeze ∷ advances)) led.behind.world =
    subst (λ (s : Setup). WorldRun s (flat (failed outcome run freeze ∷ advances)) led.behind.world) led.setup_is led.behind.leads in
    let at = leads.1 in
    let it : StartedRun setup outcome run (flat advances) led.behind.world = record {
      xs = [];
      before = beginning setup;
      run_before = (leads.0, refl);
      freeze = freeze;
      started = at.0;
      step = at.1;
      goes_on = at.2;
    } in
    let kept = within setup its outcome run (flat advances) led.behind.world it in
    omega (arith, kept.2.budget, few_instructions setup its kept.0.queue, steps_enough run advances are, many)
