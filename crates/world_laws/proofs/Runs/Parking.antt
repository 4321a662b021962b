-- A run that is parked stays as it is until it is resumed.
use Rattle.std.proofs.Common.{◌≡◌, ℕ, List, [], ◌∷◌, Bool, true, false, cond, Option, Some, None, inl, inr, refl, ap, sym, subst, ◌∙◌, arith}
use Rattle.std.specs.Prelude.{not, ◌||◌}
use Rattle.ccb.specs.declared.call_refusal.CallRefusal.TheVariants.{Unknown}
use Rattle.std.specs.Option.{is_some, option_map}
use Rattle.std.proofs.lemmas.Bool.{cases_Bool, cases_eq, cond-true, cond-false, ne_eqb, or_parts}
use Rattle.std.proofs.lemmas.List.Sums.{sum_by-cons}
use Rattle.world.specs.World.{Setup, LiveRun, World}
use Rattle.world.specs.Lawful.{IsLawful}
use Rattle.world.specs.Lookups.{ccb_of, run_of}
use Rattle.world_calls.specs.declared.call.Call.TheVariants.{Park, Resume}
use Rattle.world_calls.specs.declared.call_answer.CallAnswer.TheVariants as answers
use Rattle.world.specs.Event.{Instruction, Event, called, executes, Reply, replies}
use Rattle.world.specs.ParkSteps.{with_out, parks, resumes}
use Rattle.world.specs.Refusals.{is_parked, unless_refused}
use Rattle.world.specs.Step.{WorldStep}
use Rattle.world.specs.WorldRun.{Leads}
use Rattle.world.specs.Laws.FreezeLaws.{entries_of}
use Rattle.world.specs.Laws.Headline.{is_step_of, is_turn_of, is_own_of, steps_of}
use Rattle.world.specs.Laws.ParkLaws.{is_resume_of, resumes_of, ParkedStaysAsItIs}
use Rattle.world_laws.proofs.Steps.Running.{some_is, executes_parts}
use Rattle.world_laws.proofs.Steps.Cases.{case_of}
use Rattle.world.proofs.Steps.Moves.{KeepsLists}
use Rattle.world_laws.proofs.Steps.Effects.{effect_of}
use Rattle.world_laws.proofs.Steps.Fates.{turned, changed_same}
use Rattle.world_laws.proofs.Kept.{step_keeps}
use Rattle.world_laws.proofs.Leads.{lists_are_kept}
use Rattle.world_laws.proofs.Freezes.Held.{others_entries}
use Rattle.world_laws.proofs.Runs.Recovering.{others_ccb}
use Rattle.world_laws.proofs.Runs.Reaching.{same_found}
use Rattle.world_laws.proofs.Sound.{IsSound, step_sound, run_sound}
use Rattle.world_laws.proofs.Headline.{not_its_own}

abbrev one : Bool → ℕ
one b = cond b 1 0

-- a run that is parked takes no step
takes_none : (setup : Setup) (before : World) (number other : ℕ) (instruction : Instruction) (reply : Reply) (after : World) (run : LiveRun) → run_of number before.runs.list ≡ Some run → run.out ≡ false → WorldStep setup before (executes other instruction) reply after → other ≡ number → ⊥
takes_none setup before number other instruction reply after run found parked step same =
    let it = (executes_parts setup before other instruction reply after step).it in
    let number_is : it.number ≡ number = let e : executes other instruction ≡ executes it.number instruction = it.event_is in cc in
    let one_run : it.run ≡ run = same_found before number it.run run (subst (λ (n : ℕ). run_of n before.runs.list ≡ Some it.run) number_is it.found) found in
    let bad : true ≡ false = sym it.out ∙ (ap (λ (r : LiveRun). r.out) one_run ∙ parked) in cc

-- nor is it parked again
parks_none : (before : World) (run : LiveRun) (reply : Reply) (after : World) → run.out ≡ false → parks before (Some run) ≡ Some (reply, after) → ⊥
parks_none before run reply after parked step = let none = sym (cond-false run.out _ _ parked) ∙ step in cc

-- so no event is its own but its resume
not_own : (setup : Setup) (before : World) (number : ℕ) (run : LiveRun) (event : Event) (reply : Reply) (after : World) → run_of number before.runs.list ≡ Some run → run.out ≡ false → is_resume_of number event ≡ false → WorldStep setup before event reply after → is_own_of number event ≡ false
not_own setup before number run (called (Park another)) reply after found parked other step =
    elim (cases_eq another number) [
      | inl same ↦ absurd (parks_none before run reply after parked (sym (ap (parks before) (ap (λ (n : ℕ). run_of n before.runs.list) same ∙ found)) ∙ step))
      | inr apart ↦ ne_eqb _ _ apart
    ]
not_own setup before number run (called (Resume another)) reply after found parked other step = other
not_own setup before number run (called another) reply after found parked other step = refl
not_own setup before number run (executes another instruction) reply after found parked other step =
    elim (cases_eq another number) [
      | inl same ↦ absurd (takes_none setup before number another instruction reply after run found parked step same)
      | inr apart ↦ ap (λ (b : Bool). is_some (cond b (Some instruction) None) || false) (ne_eqb _ _ apart)
    ]

-- it stands along a run of the world
record Stands (setup : Setup) (number : ℕ) (run : LiveRun) (before : World) (ys : List (Event × Reply)) (later : World) : Type 0 where
  no_step : steps_of number ys ≡ 0
  still : run_of number later.runs.list ≡ Some run
  freezes : entries_of number later.transport.freezes ≡ entries_of number before.transport.freezes
  ccb : IsLawful setup → IsSound setup before → run.machine.disposed ≡ false → ccb_of run.ccb later.transport.live ≡ ccb_of run.ccb before.transport.live

stands_along : (setup : Setup) (number : ℕ) (run : LiveRun) (before : World) (ys : List (Event × Reply)) (later : World) → KeepsLists setup before → run.out ≡ false → run_of number before.runs.list ≡ Some run → Leads setup before ys later → resumes_of number ys ≡ 0 → Stands setup number run before ys later
stands_along setup number run before [] later kept parked found leads none =
    record {
      no_step = refl;
      still = ap (λ (w : World). run_of number w.runs.list) (sym leads) ∙ found;
      freezes = ap (λ (w : World). entries_of number w.transport.freezes) (sym leads);
      ccb = λ lawful sound fresh. ap (λ (w : World). ccb_of run.ccb w.transport.live) (sym leads);
    }
stands_along setup number run before (y ∷ ys) later kept parked found leads none =
    let between : World = leads.0 in
    let resumes = sum_by-cons (λ (x : Event × Reply). one (is_resume_of number x.0)) y ys in
    let steps = sum_by-cons (λ (x : Event × Reply). one (is_step_of number x.0)) y ys in
    let first : is_resume_of number y.0 ≡ false = elim (cases_Bool (is_resume_of number y.0)) [
      | inl its ↦ let counted : one (is_resume_of number y.0) ≡ 1 = ap one its in absurd (omega (arith, none, resumes, counted))
      | inr not_its ↦ not_its
    ] in
    let own = not_own setup before number run y.0 y.1 between found parked first leads.1 in
    let step : is_step_of number y.0 ≡ false = (or_parts (is_step_of number y.0) (is_turn_of number y.0) own).0 in
    let effect = effect_of setup before y.0 y.1 between kept (case_of setup before y.0 y.1 between leads.1) in
    let rest = stands_along setup number run between ys later (step_keeps setup before y.0 y.1 between leads.1 kept) parked (not_its_own setup before y.0 y.1 between number run own found effect.runs) leads.2 (omega (arith, none, resumes)) in
    let counted : one (is_step_of number y.0) ≡ 0 = ap one step in
    record {
      no_step = omega (arith, steps, counted, rest.no_step);
      still = rest.still;
      freezes = rest.freezes ∙ others_entries setup before y.0 between number run kept found step effect.freezes;
      ccb = λ lawful sound fresh.
          rest.ccb lawful (step_sound setup before y.0 y.1 between lawful leads.1 sound) fresh
          ∙ others_ccb setup before y.0 y.1 between number run sound.recovering found fresh step effect.ccbs;
    }

-- a park is an event only of a run that is out
record Parks (number : ℕ) (run : LiveRun) (before after : World) : Type 0 where
  out : run.out ≡ true
  after_is : after ≡ with_out before run false

park_parts : (before : World) (number : ℕ) (run : LiveRun) (reply : Reply) (after : World) → parks before (Some run) ≡ Some (reply, after) → Parks number run before after
park_parts before number run reply after step =
    elim (cases_Bool run.out) [
      | inl out ↦ record { out = out; after_is = ap (λ (x : Reply × World). x.1) (some_is _ _ (sym (cond-true run.out _ _ out) ∙ step)) }
      | inr parked ↦ absurd (parks_none before run reply after parked step)
    ]

-- and a resume gives it back
gives_back : (setup : Setup) (number : ℕ) (run : LiveRun) (later : World) → run.out ≡ true → run_of number later.runs.list ≡ Some (turned run false) → (after : World) × WorldStep setup later (called (Resume number)) (replies answers.Ok) after × (run_of number after.runs.list ≡ Some run)
gives_back setup number run later out found = (
  with_out later (turned run false) true,
  ap (λ (o : Option LiveRun). unless_refused ((not (is_parked o), Unknown) ∷ []) later (option_map (resumes later) o)) found,
  changed_same later.runs.list _ number (turned run false) (turned run true) refl found refl ∙ ap (λ (b : Bool). Some (turned run b)) (sym out),
)

pub parked_stays_as_it_is : ParkedStaysAsItIs
parked_stays_as_it_is setup xs ys number run reply before parked later first found park leads none =
    let it = park_parts before number run reply parked (sym (ap (parks before) found) ∙ park) in
    let kept = lists_are_kept setup xs before first in
    let there = changed_same before.runs.list parked.runs.list number run (turned run false) refl found (ap (λ (w : World). w.runs.list) it.after_is) in
    let stands = stands_along setup number (turned run false) parked ys later (step_keeps setup before (called (Park number)) reply parked park kept) refl there leads none in (
      stands.no_step,
      record {
        still = stands.still;
        freezes = stands.freezes ∙ ap (λ (w : World). entries_of number w.transport.freezes) it.after_is;
        ccb = λ lawful fresh.
            stands.ccb lawful (step_sound setup before (called (Park number)) reply parked lawful park (run_sound setup xs before lawful first)) fresh
            ∙ ap (λ (w : World). ccb_of run.ccb w.transport.live) it.after_is;
        resumed = gives_back setup number run later it.out stands.still;
      },
    )
