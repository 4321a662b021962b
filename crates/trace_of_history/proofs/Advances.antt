-- An advance of a run that is live tells of no more instructions than its program has, and it has a text.
use Rattle.std.proofs.Common.{◌≡◌, ℕ, zero, suc, ◌+◌, ◌<◌, ◌≤◌, ◌^◌, ◌==◌, ◌&&◌, Bool, cond, List, [], ◌∷◌, ◌++◌, Option, Some, None, replicate, inl, inr, refl, ap, subst, ◌∙◌, arith, decimal, nat_le, nat_lt}
use Rattle.std.specs.Prelude.{IsSome}
use Rattle.std.specs.Option.{is_some}
use Rattle.std.proofs.lemmas.Bool.{and_from, cases_Bool, cond-true, eq-eqb, le-leb, lt-ltb}
use Rattle.std.proofs.lemmas.List.Sums.{sum_by-cons}
use Rattle.world_calls.specs.declared.record.Record.TheVariants.{Advance}
use Rattle.world_calls.specs.declared.record.StoppedAt.{StoppedAt}
use Rattle.world_calls.specs.declared.record.StoppedAt.TheVariants as stopped
use Rattle.trace_lines.specs.Calls.{three, word_text}
use Rattle.trace_lines.specs.Lines.{fields_text, line_text}
use Rattle.trace_lines.specs.Rows.{row_of}
use Rattle.trace_lines.specs.Texts.{field_text, long_number_text, stop_text}
use Rattle.trace_lines.specs.declared.value.Value.TheVariants as values
use Rattle.trace_lines.specs.declared.word.Word.TheVariants as words
use Rattle.trace.specs.HasText.{StopFits}
use Rattle.trace.specs.TraceText.{stop_of as spelled}
use Rattle.world.specs.World.{Setup, queue_count, queue_setup, no_queue, LiveRun, World}
use Rattle.world.specs.Lawful.{IsLawful}
use Rattle.world.specs.Lookups.{run_of}
use Rattle.world.specs.Told.{Told, plain, traces, finishes}
use Rattle.world.specs.Event.{Instruction, private, call, Event, executes, Reply, went_on, result}
use Rattle.world.specs.Flat.{stop_of, advance_of}
use Rattle.world.specs.Step.{WorldStep}
use Rattle.world.specs.WorldRun.{Leads}
use Rattle.world.specs.Laws.Headline.{is_step_of, steps_of, disposals_of, exits_of}
use Rattle.world.proofs.Lists.Each.{all_found}
use Rattle.world.proofs.Steps.Moves.{run_key}
use Rattle.world_laws.proofs.Empty.{empty_advance_is_none}
use Rattle.world_laws.proofs.Leads.{leads_split}
use Rattle.world_laws.proofs.Runs.Lives.{Life, alive, over, life_leads, within}
use Rattle.world_laws.proofs.Sound.{IsSound, leads_sound}
use Rattle.world_laws.proofs.Steps.Running.{call_parts, executes_parts}
use Rattle.trace_of_history.proofs.Frames.{reached_whole}
use Rattle.trace_of_history.proofs.Somes.{HasLine, some_where, some_number, some_long_number, some_field, some_line, some_entry}
use Rattle.trace_of_history.proofs.Stops.{called_some}

-- ---- how many instructions

-- so many private instructions, and the stop
abbrev stretch : ℕ → ℕ → StoppedAt → ℕ → List (Event × Reply)
stretch run n stop r0 = replicate n (executes run private, went_on) ++ (executes run (stop_of stop), result r0) ∷ []

abbrev one : Bool → ℕ
one b = cond b 1 0

counted : (run : ℕ) (instruction : Instruction) → one (is_step_of run (executes run instruction)) ≡ 1
counted run instruction = ap (λ (o : Option Instruction). one (is_some o)) (cond-true (run == run) (Some instruction) None (eq-eqb run run refl))

steps_are : (run n : ℕ) (stop : StoppedAt) (r0 : ℕ) → steps_of run (stretch run n stop r0) ≡ n + 1
steps_are run zero stop r0 =
    let last : Event × Reply = (executes run (stop_of stop), result r0) in
    omega (arith, sum_by-cons (λ (x : Event × Reply). one (is_step_of run x.0)) last [], counted run (stop_of stop))
steps_are run (suc n) stop r0 =
    let first : Event × Reply = (executes run private, went_on) in
    omega (arith, sum_by-cons (λ (x : Event × Reply). one (is_step_of run x.0)) first (stretch run n stop r0), counted run private, steps_are run n stop r0)

-- the run that executes is live
its_number : (run number : ℕ) (i j : Instruction) → executes run i ≡ executes number j → number ≡ run
its_number run number i j e = cc

live_there : (setup : Setup) (before : World) (run : ℕ) (instruction : Instruction) (reply : Reply) (after : World) → WorldStep setup before (executes run instruction) reply after → (it : LiveRun) × (run_of run before.runs.list ≡ Some it)
live_there setup before run instruction reply after e =
    let parts = executes_parts setup before run instruction reply after e in
    (parts.it.run, subst (λ (n : ℕ). run_of n before.runs.list ≡ Some parts.it.run) (its_number run parts.it.number instruction instruction parts.it.event_is) parts.it.found)

live_before : (setup : Setup) (before : World) (run n : ℕ) (stop : StoppedAt) (r0 : ℕ) (after : World) → Leads setup before (stretch run n stop r0) after → (it : LiveRun) × (run_of run before.runs.list ≡ Some it)
live_before setup before run zero stop r0 after leads = live_there setup before run (stop_of stop) (result r0) leads.0 leads.1
live_before setup before run (suc n) stop r0 after leads = live_there setup before run private went_on leads.0 leads.1

-- what is known of a run, whatever it did before
lives : (setup : Setup) (before : World) (run : ℕ) (it : LiveRun) → IsSound setup before → run_of run before.runs.list ≡ Some it → (k : ℕ) × (j : ℕ) × Life setup it run k j 0 before
lives setup before run it sound found =
    let reached = sound.reached run it found in
    elim (cases_Bool it.machine.disposed) [
      | inl used ↦ (reached.0, 1, alive it found refl refl reached.1 (inr (used, refl)) refl)
      | inr fresh ↦ (reached.0, 0, alive it found refl refl reached.1 (inl (fresh, refl)) refl)
    ]

-- a run keeps within its budget
keeps : (setup : Setup) (start : LiveRun) (run k j e : ℕ) (world : World) → IsLawful setup → IsSound setup world → Life setup start run k j e world → k ≤ (queue_setup setup start.queue).budget
keeps setup start run k j e world lawful sound (alive now found queue ccb reached disposed none_yet) =
    subst (λ (q : ℕ). k ≤ (queue_setup setup q).budget) queue ((within setup world run now lawful sound found k now.machine reached).0)
keeps setup start run k j e world lawful sound (over none given most used gone) = most

few_steps : (setup : Setup) (before : World) (run n : ℕ) (stop : StoppedAt) (r0 : ℕ) (after : World) → IsLawful setup → IsSound setup before → Leads setup before (stretch run n stop r0) after → n + 1 ≤ 65536
few_steps setup before run n stop r0 after lawful sound leads =
    let xs = stretch run n stop r0 in
    let live = live_before setup before run n stop r0 after leads in
    let life = lives setup before run live.0 sound live.1 in
    let later = life_leads setup live.0 run life.0 life.1 0 before xs after lawful sound leads life.2 in
    let most = keeps setup live.0 run (life.0 + steps_of run xs) (life.1 + disposals_of run xs) (0 + exits_of run xs) after lawful (leads_sound setup before xs after lawful leads sound) later in
    let known = all_found run_key (λ (r : LiveRun). r.queue < queue_count setup) run before.runs.list live.0 sound.kept.runs.queues live.1 in
    let budget : (queue_setup setup live.0.queue).budget ≤ 65536 = (lawful.queues live.0.queue no_queue known).budget in
    omega (arith, most, budget, steps_are run n stop r0)

-- ---- where it stopped

told_some : (setup : Setup) (before : World) (run : ℕ) (told : Told) (r0 : ℕ) (after : World) (stop : StoppedAt) → IsSound setup before → stop_of stop ≡ call told → StopFits stop → WorldStep setup before (executes run (call told)) (result r0) after → IsSome (stop_text (spelled stop))
told_some setup before run told r0 after stop sound is fits e =
    let c = call_parts setup before run told (result r0) after e in
    let reached = sound.reached c.it.number c.it.run c.it.found in
    called_some setup.limits c.it.run.program c.it.run.machine c.request (reached_whole c.it.run.program reached.0 c.it.run.machine reached.1) c.call_is c.rule stop (is ∙ ap call c.told_is) fits

stop_some : (setup : Setup) (before : World) (run : ℕ) (r0 : ℕ) (after : World) (stop : StoppedAt) → IsSound setup before → StopFits stop → WorldStep setup before (executes run (stop_of stop)) (result r0) after → IsSome (stop_text (spelled stop))
stop_some setup before run r0 after (stopped.Helper helper) sound fits e = told_some setup before run (plain helper) r0 after (stopped.Helper helper) sound refl fits e
stop_some setup before run r0 after (stopped.Trace helper bytes) sound fits e = told_some setup before run (traces helper bytes) r0 after (stopped.Trace helper bytes) sound refl fits e
stop_some setup before run r0 after (stopped.Finish helper code) sound fits e = told_some setup before run (finishes helper code) r0 after (stopped.Finish helper code) sound refl fits e
stop_some setup before run r0 after stopped.Exit sound fits e = refl

-- ---- the line

asked : (run instructions : ℕ) (stop : StoppedAt) → run < 2 ^ 32 → 0 < instructions → instructions ≤ 65536 → IsSome (stop_text (spelled stop)) → IsSome (line_text words.Advance (three (values.Number run) (values.Number instructions) (values.Stop (spelled stop))))
unfolding row_of fields_text field_text
asked run instructions stop fits some few there =
    some_line (word_text words.Advance) _ _ _ (Some []) (some_field _ (some_number run fits))
    (some_field _ (some_where (nat_lt 0 instructions && nat_le instructions 65536) (decimal instructions) (and_from (nat_lt 0 instructions) (nat_le instructions 65536) (lt-ltb 0 instructions some) (le-leb instructions 65536 few))))
    (some_field _ there) refl

pub advance_has : (setup : Setup) (before : World) (run instructions : ℕ) (stop : StoppedAt) (r0 : ℕ) (after : World) → IsLawful setup → IsSound setup before → Leads setup before (advance_of run instructions stop r0) after → HasLine (Advance run instructions stop r0)
advance_has setup before run zero stop r0 after lawful sound leads = absurd (empty_advance_is_none setup run stop r0 before after leads)
advance_has setup before run (suc n) stop r0 after lawful sound leads =
    let private_ones : List (Event × Reply) = replicate n (executes run private, went_on) in
    let parts = leads_split setup before private_ones ((executes run (stop_of stop), result r0) ∷ []) after leads in
    let there = leads_sound setup before private_ones parts.0 lawful parts.1 sound in
    let count = few_steps setup before run n stop r0 after lawful sound leads in
    λ fits. some_entry (line_text words.Advance (three (values.Number run) (values.Number (suc n)) (values.Stop (spelled stop)))) (long_number_text r0)
    (asked run (suc n) stop fits.0 (omega arith) (omega (arith, count)) (stop_some setup parts.0 run r0 parts.2.0 stop there fits.1 parts.2.1))
    (some_long_number r0 fits.2)
