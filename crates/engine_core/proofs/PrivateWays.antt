-- What a run does up to a stop: its private instructions lead the world to one that differs in the run's machine alone.
use Rattle.std.proofs.Common.{◌≡◌, ℕ, zero, suc, ◌+◌, List, [], ◌∷◌, map, replicate, true, Some, None, refl, ap, sym, subst, ◌∙◌, arith}
use Rattle.std.specs.Option.{option_map}
use Rattle.std.proofs.lemmas.Bool.{cond-true}
use Rattle.bpf_semantics.specs.MachineState.{MachineState}
use Rattle.bpf_semantics.specs.Reached.{PrivateSteps}
use Rattle.world_calls.specs.declared.record.StoppedAt.{StoppedAt}
use Rattle.world_calls.specs.declared.record.Record.TheVariants.{Advance}
use Rattle.world.specs.World.{Setup, LiveRun, World}
use Rattle.world.specs.Lookups.{run_of}
use Rattle.world.specs.Event.{private, executes, went_on, result}
use Rattle.world.specs.RunSteps.{goes_on, step_run, step_executes}
use Rattle.world.specs.Step.{WorldStep}
use Rattle.world.specs.WorldRun.{Leads}
use Rattle.world.specs.Flat.{stop_of, events_of}
use Rattle.ccb.specs.Rising.{AreRising}
use Rattle.world.proofs.Lists.Found.{put, put_same, put_keys, put_put}
use Rattle.world.proofs.Lists.Rising.{put_self}
use Rattle.world.proofs.Steps.Moves.{run_key}
use Rattle.world_laws.proofs.Leads.{leads_append}

abbrev pub with_machine : LiveRun → MachineState → LiveRun
with_machine run machine = record run { machine = machine }

-- the private instructions of a run that is out
pub private_leads : (setup : Setup) (n : ℕ) (world : World) (high : ℕ) (run : LiveRun) (to : MachineState) → AreRising 0 (map run_key world.runs.list) high → run_of run.number world.runs.list ≡ Some run → run.out ≡ true → PrivateSteps run.program n run.machine to → Leads setup world (replicate n (executes run.number private, went_on)) (goes_on world run to)
private_leads setup zero world high run to rising found out same =
    let stays : put run_key run world.runs.list ≡ world.runs.list = put_self run_key 0 world.runs.list high run rising found in
    let moved : goes_on world run to ≡ goes_on world run run.machine = ap (goes_on world run) (sym same) in
    let here : goes_on world run run.machine ≡ world = ap (λ (runs : List LiveRun). record world { runs = record world.runs { list = runs } }) stays in
    sym (moved ∙ here)
private_leads setup (suc n) world high run to rising found out (next, first, rest) =
    let between : World = goes_on world run next in
    let then_run : LiveRun = with_machine run next in
    let step : WorldStep setup world (executes run.number private) went_on between =
    ap (step_executes setup.limits world private) found ∙ (cond-true run.out (step_run setup.limits world run private) None out ∙ ap (option_map (λ (m : MachineState). (went_on, goes_on world run m))) first) in
    let keys : map run_key between.runs.list ≡ map run_key world.runs.list = put_keys run_key then_run world.runs.list in
    let later = private_leads setup n between high then_run to (subst (λ (ns : List ℕ). AreRising 0 ns high) (sym keys) rising) (put_same run_key then_run world.runs.list run found) out rest in
    let end : goes_on between then_run to ≡ goes_on world run to =
    ap (λ (runs : List LiveRun). record world { runs = record world.runs { list = runs } }) (put_put run_key then_run (with_machine run to) world.runs.list refl) in
    (between, step, subst (λ (w : World). Leads setup between (replicate n (executes run.number private, went_on)) w) end later)

-- with the stop after them they are what an advance's record stands for
pub advance_leads : (setup : Setup) (n steps : ℕ) (world between after : World) (run : ℕ) (stop : StoppedAt) (r0 : ℕ) → steps ≡ n + 1 → Leads setup world (replicate n (executes run private, went_on)) between → WorldStep setup between (executes run (stop_of stop)) (result r0) after → Leads setup world (events_of (Advance run steps stop r0)) after
advance_leads setup n steps world between after run stop r0 count leads step =
    let many : steps ≡ suc n = omega (arith, count) in
    subst (λ (k : ℕ). Leads setup world (events_of (Advance run k stop r0)) after) (sym many)
    (leads_append setup world (replicate n (executes run private, went_on)) ((executes run (stop_of stop), result r0) ∷ []) between after leads (after, step, refl))
