-- Where a run stands at a stop: at a helper call whose rule holds, or at its lawful exit; and what the world has for it.
use Rattle.std.proofs.Common.{◌≡◌, ℕ, ◌≤◌, List, [], ◌∷◌, map, true, Option, Some, None, inl, inr, refl, ap, sym, ◌∙◌}
use Rattle.std.specs.Option.{option_map, option_and_then}
use Rattle.std.proofs.lemmas.Bool.{cond-true, and_from}
use Rattle.freeze_ledger.specs.declared.freeze.Freeze.{Freeze}
use Rattle.freeze_ledger.specs.Freezes.{entry_of}
use Rattle.helpers.specs.declared.limits.HelperLimits.{HelperLimits}
use Rattle.helpers.specs.declared.request.Request.{Request}
use Rattle.bpf_semantics.specs.Calls.{is_held, meets_rule}
use Rattle.bpf_semantics.specs.declared.stop.Stop.{Stop}
use Rattle.bpf_semantics.specs.declared.stop.Stop.TheVariants.{Helper, Exit}
use Rattle.bpf_semantics.specs.Step.{request_at, exit_at}
use Rattle.bpf_semantics.specs.Stops.{stop_of, stop_at}
use Rattle.bpf_semantics.proofs.Progress.{progress_lem}
use Rattle.world.specs.World.{Setup, LiveRun, World}
use Rattle.world.specs.Lawful.{IsLawful}
use Rattle.world.specs.Lookups.{run_of}
use Rattle.world.specs.Told.{told_of}
use Rattle.world.specs.Event.{call, exit, executes, Reply, result}
use Rattle.world.specs.RunSteps.{is_run, ends, step_request, may_call, step_helper, step_run, step_executes}
use Rattle.world.specs.Step.{WorldStep}
use Rattle.world.specs.Laws.FreezeLaws.{entries_of}
use Rattle.world.proofs.Lists.Entries.{entry_bounds}
use Rattle.world.proofs.Lists.HeldBy.{among_is}
use Rattle.world_laws.proofs.Runs.Reaching.{reached_goes}
use Rattle.world_laws.proofs.Telling.{told_itself}
use Rattle.world_laws.proofs.Sound.{IsSound}

-- the machine stands at this stop, and may go on there
pub data StandsLawfully (run : LiveRun) (limits : HelperLimits) (stop : Stop) : Type 0 where
  at_call : (request : Request) → stop ≡ Helper request → request_at run.program run.machine ≡ Some request → meets_rule limits run.machine request ≡ true → StandsLawfully run limits stop
  at_exit : (r0 : ℕ) → stop ≡ Exit r0 → exit_at run.program run.machine ≡ Some r0 → run.machine.held ≡ [] → StandsLawfully run limits stop

same_stop : (a b : Stop) → Some a ≡ Some b → b ≡ a
same_stop a b e = cc

pub stands_lawfully : (setup : Setup) (world : World) (number : ℕ) (run : LiveRun) (stop : Stop) → IsLawful setup → IsSound setup world → run_of number world.runs.list ≡ Some run → stop_at run.program run.machine ≡ Some stop → StandsLawfully run setup.limits stop
stands_lawfully setup world number run stop lawful sound found at =
    let goes = reached_goes setup lawful world sound.kept.runs number run found (sound.reached number run found) in
    elim (progress_lem run.program setup.limits run.machine goes) [
      | inl it ↦
          let none : stop_at run.program run.machine ≡ None = ap (λ (o : Option Request). stop_of o (exit_at run.program run.machine)) it.no_call ∙ ap (stop_of None) it.no_exit in
          absurd (let bad : None ≡ Some stop = sym none ∙ at in cc)
      | inr (inl it) ↦
          let is : stop_at run.program run.machine ≡ Some (Helper it.request) = ap (λ (o : Option Request). stop_of o (exit_at run.program run.machine)) it.call in
          at_call it.request (same_stop (Helper it.request) stop (sym is ∙ at)) it.call it.rule
      | inr (inr it) ↦
          let is : stop_at run.program run.machine ≡ Some (Exit it.r0) = ap (λ (o : Option Request). stop_of o (exit_at run.program run.machine)) it.no_call ∙ ap (stop_of None) it.exit in
          at_exit it.r0 (same_stop (Exit it.r0) stop (sym is ∙ at)) it.exit it.released
    ]

-- the freeze that a run gives back is there, and is its own
pub record GivesBack (world : World) (run : LiveRun) (freeze : ℕ) : Type 0 where
  pub entry : Freeze
  pub found : entry_of freeze world.transport.freezes ≡ Some entry
  pub number_is : entry.number ≡ freeze
  pub bound : freeze ≤ world.transport.greatest_freeze
  pub its : is_run run.number entry.holder ≡ true

pub gives_back : (setup : Setup) (world : World) (run : LiveRun) (freeze : ℕ) → IsSound setup world → run_of run.number world.runs.list ≡ Some run → is_held run.machine.held freeze ≡ true → GivesBack world run freeze
gives_back setup world run freeze sound found held =
    let among = among_is run.number freeze 0 world.transport.freezes world.transport.greatest_freeze sound.kept.freezes.numbered
    (sym (ap (λ (ns : List ℕ). is_held ns freeze) (sound.held.machines run.number run found)) ∙ held) in
    let bounds = entry_bounds 0 world.transport.freezes world.transport.greatest_freeze freeze among.0 sound.kept.freezes.numbered among.1 in
    record { entry = among.0; found = among.1; number_is = bounds.0; bound = bounds.2; its = among.2 }

-- its call is a step, where it leads somewhere
pub call_step : (setup : Setup) (world : World) (run : LiveRun) (request : Request) (p : Reply × World) → run_of run.number world.runs.list ≡ Some run → run.out ≡ true → request_at run.program run.machine ≡ Some request → meets_rule setup.limits run.machine request ≡ true → step_request world run request ≡ Some p → WorldStep setup world (executes run.number (call (told_of request))) p.0 p.1
call_step setup world run request p found out call_is rule leads =
    ap (step_executes setup.limits world (call (told_of request))) found
    ∙ (cond-true run.out (step_run setup.limits world run (call (told_of request))) None out
    ∙ (ap (option_and_then (step_helper setup.limits world run (told_of request))) call_is
    ∙ (cond-true (may_call setup.limits run (told_of request) request) (step_request world run request) None (and_from _ _ (told_itself (told_of request)) rule) ∙ leads)))

-- its exit is a step
pub exit_step : (setup : Setup) (world : World) (run : LiveRun) (r0 : ℕ) → run_of run.number world.runs.list ≡ Some run → run.out ≡ true → exit_at run.program run.machine ≡ Some r0 → WorldStep setup world (executes run.number exit) (result r0) (ends world run)
exit_step setup world run r0 found out exit_is =
    ap (step_executes setup.limits world exit) found ∙ (cond-true run.out (step_run setup.limits world run exit) None out ∙ ap (option_map _) exit_is)

pub none_held : (freezes : List Freeze) → map (λ (freeze : Freeze). freeze.number) freezes ≡ [] → freezes ≡ []
none_held [] e = refl
none_held (freeze ∷ freezes) e = absurd (let bad : (freeze.number ∷ map (λ (freeze : Freeze). freeze.number) freezes) ≡ [] = e in cc)

-- a run that holds nothing is named by no entry
pub holds_nothing : (setup : Setup) (world : World) (run : LiveRun) → IsSound setup world → run_of run.number world.runs.list ≡ Some run → run.machine.held ≡ [] → entries_of run.number world.transport.freezes ≡ []
holds_nothing setup world run sound found none = none_held (entries_of run.number world.transport.freezes) (sym (sound.held.machines run.number run found) ∙ none)
