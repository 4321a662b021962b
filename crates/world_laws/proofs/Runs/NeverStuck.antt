-- No live run is stuck, and each that is out has exactly one step.
use Rattle.std.proofs.Common.{◌≡◌, ℕ, List, true, false, Option, Some, None, inl, inr, refl, ap, sym, subst, ◌∙◌}
use Rattle.std.specs.Option.{option_map, option_and_then}
use Rattle.std.proofs.lemmas.Bool.{cond-true, and_from}
use Rattle.freeze_ledger.specs.declared.freeze.Freeze.{Freeze}
use Rattle.freeze_ledger.specs.Freezes.{entry_of}
use Rattle.helpers.specs.declared.request.Request.{Request}
use Rattle.bpf_semantics.specs.Calls.{is_held, meets_rule}
use Rattle.bpf_semantics.specs.MachineState.{MachineState}
use Rattle.bpf_semantics.specs.Step.{private_step, request_at, exit_at}
use Rattle.bpf_semantics.specs.Stuck.{is_stuck}
use Rattle.bpf_semantics.specs.Progress.{HasStep, AtLawfulExit}
use Rattle.bpf_semantics.proofs.Progress.{progress_lem}
use Rattle.world.specs.World.{Setup, LiveRun, World}
use Rattle.world.specs.Lookups.{run_of}
use Rattle.world.specs.Told.{told_of}
use Rattle.world.specs.Event.{Instruction, private, call, exit, executes, Reply}
use Rattle.world.specs.RunSteps.{is_run, may_call, step_request, step_helper, step_run, step_executes}
use Rattle.world.specs.Step.{WorldStep}
use Rattle.world.specs.Laws.Headline.{HasOneStep, NeverStuck}
use Rattle.world.proofs.Lists.Found.{found_key}
use Rattle.world_laws.proofs.Telling.{told_itself}
use Rattle.world_laws.proofs.Steps.Running.{some_is, Executes, private_parts, call_parts, exit_parts}
use Rattle.world.proofs.Steps.Moves.{run_key}
use Rattle.world_laws.proofs.Steps.Fates.{same_run}
use Rattle.world_laws.proofs.Entries.{HasItsOwn}
use Rattle.world_laws.proofs.Deeds.{leads_on}
use Rattle.world_laws.proofs.Runs.Reaching.{reached_goes}
use Rattle.world.proofs.Lists.HeldBy.{among_is}
use Rattle.world_laws.proofs.Sound.{IsSound, run_sound}

-- the machine of the run stands at such an instruction
abbrev StandsAt : LiveRun → Instruction → Type 0
StandsAt run private = (m : MachineState) × (private_step run.program run.machine ≡ Some m)
StandsAt run (call told) = (request : Request) × (request_at run.program run.machine ≡ Some request) × (told ≡ told_of request)
StandsAt run exit = (r0 : ℕ) × (exit_at run.program run.machine ≡ Some r0)

its_run : (world : World) (number : ℕ) (run : LiveRun) (instruction : Instruction) → run_of number world.runs.list ≡ Some run → (it : Executes world (executes number instruction) instruction) → it.run ≡ run
its_run world number run instruction found it =
    let e : executes number instruction ≡ executes it.number instruction = it.event_is in
    let same : it.number ≡ number = cc in
    same_run world.runs.list it.number number it.run run same it.found found

-- an instruction that is an event is one at which the run stands
stands_at : (setup : Setup) (world : World) (number : ℕ) (run : LiveRun) (instruction : Instruction) (reply : Reply) (after : World) → run_of number world.runs.list ≡ Some run → WorldStep setup world (executes number instruction) reply after → StandsAt run instruction
stands_at setup world number run private reply after found e =
    let it = private_parts setup world number reply after e in
    (it.machine, subst (λ (r : LiveRun). private_step r.program r.machine ≡ Some it.machine) (its_run world number run private found it.it) it.step)
stands_at setup world number run (call told) reply after found e =
    let it = call_parts setup world number told reply after e in
    (it.request, subst (λ (r : LiveRun). request_at r.program r.machine ≡ Some it.request) (its_run world number run (call told) found it.it) it.call_is, it.told_is)
stands_at setup world number run exit reply after found e =
    let it = exit_parts setup world number reply after e in
    (it.r0, subst (λ (r : LiveRun). exit_at r.program r.machine ≡ Some it.r0) (its_run world number run exit found it.it) it.exit_is)

-- a step, and that no other instruction is one
one_step : (setup : Setup) (world : World) (number : ℕ) (run : LiveRun) → run_of number world.runs.list ≡ Some run → run.out ≡ true → (instruction : Instruction) (p : Reply × World) → step_run setup.limits world run instruction ≡ Some p → ((other : Instruction) → StandsAt run other → other ≡ instruction) → HasOneStep setup world number
one_step setup world number run found out instruction p e only =
    let step : WorldStep setup world (executes number instruction) p.0 p.1 =
    ap (step_executes setup.limits world instruction) found ∙ (cond-true run.out (step_run setup.limits world run instruction) None out ∙ e) in
    record {
      instruction = instruction;
      reply = p.0;
      after = p.1;
      step = step;
      only = λ other another elsewhere its.
          let same = only other (stands_at setup world number run other another elsewhere found its) in
          let again : WorldStep setup world (executes number instruction) another elsewhere = subst (λ (i : Instruction). WorldStep setup world (executes number i) another elsewhere) same its in
          (same, ap (λ (x : Reply × World). x.0) (some_is p (another, elsewhere) (sym step ∙ again)));
    }

absent : {A : Type 0} (o : Option A) (x : A) → o ≡ None → o ≡ Some x → ⊥
absent o x none some = let bad : None ≡ Some x = sym none ∙ some in cc

-- a private instruction is the one
at_private : (setup : Setup) (world : World) (number : ℕ) (run : LiveRun) → run_of number world.runs.list ≡ Some run → run.out ≡ true → HasStep run.program run.machine → HasOneStep setup world number
at_private setup world number run found out it =
    one_step setup world number run found out private _ (ap (option_map _) it.step) only
  where
    only : (other : Instruction) → StandsAt run other → other ≡ private
    only private at = refl
    only (call told) at = absurd (absent _ _ it.no_call at.1)
    only exit at = absurd (absent _ _ it.no_exit at.1)

same_call : (a b : Request) → Some a ≡ Some b → a ≡ b
same_call a b e = cc

-- a call by its rule that leads somewhere is the one
at_this_call : (setup : Setup) (world : World) (number : ℕ) (run : LiveRun) → run_of number world.runs.list ≡ Some run → run.out ≡ true → (request : Request) → request_at run.program run.machine ≡ Some request → meets_rule setup.limits run.machine request ≡ true → private_step run.program run.machine ≡ None → exit_at run.program run.machine ≡ None → (p : Reply × World) → step_request world run request ≡ Some p → HasOneStep setup world number
at_this_call setup world number run found out request call_is rule no_step no_exit p leads =
    one_step setup world number run found out (call (told_of request)) p
    (ap (option_and_then (step_helper setup.limits world run (told_of request))) call_is
    ∙ (cond-true (may_call setup.limits run (told_of request) request) (step_request world run request) None (and_from _ _ (told_itself (told_of request)) rule) ∙ leads))
    only
  where
    only : (other : Instruction) → StandsAt run other → other ≡ call (told_of request)
    only private at = absurd (absent _ _ no_step at.1)
    only (call told) at = ap call (at.2 ∙ ap told_of (same_call _ _ (sym at.1 ∙ call_is)))
    only exit at = absurd (absent _ _ no_exit at.1)

-- the freeze that a run holds is there, and is the run's
its_entry : (setup : Setup) (world : World) (number : ℕ) (run : LiveRun) → IsSound setup world → run_of number world.runs.list ≡ Some run → (f : ℕ) → is_held run.machine.held f ≡ true → (freeze : Freeze) × (entry_of f world.transport.freezes ≡ Some freeze) × (is_run run.number freeze.holder ≡ true)
its_entry setup world number run sound found f held =
    let among = among_is number f 0 world.transport.freezes world.transport.greatest_freeze sound.kept.freezes.numbered (sym (ap (λ (ns : List ℕ). is_held ns f) (sound.held.machines number run found)) ∙ held) in
    let named : run.number ≡ number = found_key run_key number world.runs.list run found in
    (among.0, among.1, subst (λ (n : ℕ). is_run n among.0.holder ≡ true) (sym named) among.2)

-- what a run's call may rely on
has_its_own : (setup : Setup) (world : World) (number : ℕ) (run : LiveRun) → IsSound setup world → run_of number world.runs.list ≡ Some run → HasItsOwn world run
has_its_own setup world number run sound found = record {
  freezes = its_entry setup world number run sound found;
  ccb = λ fresh.
      let recovery = sound.recovering.ccbs number run found fresh in
      (recovery.live, recovery.found);
}

at_call : (setup : Setup) (world : World) (number : ℕ) (run : LiveRun) → IsSound setup world → run_of number world.runs.list ≡ Some run → run.out ≡ true → (request : Request) → request_at run.program run.machine ≡ Some request → meets_rule setup.limits run.machine request ≡ true → private_step run.program run.machine ≡ None → exit_at run.program run.machine ≡ None → HasOneStep setup world number
at_call setup world number run sound found out request call_is rule no_step no_exit =
    let leads = leads_on setup.limits world run request (has_its_own setup world number run sound found) rule in
    at_this_call setup world number run found out request call_is rule no_step no_exit leads.0 leads.1

-- the lawful exit is the one
at_exit : (setup : Setup) (world : World) (number : ℕ) (run : LiveRun) → run_of number world.runs.list ≡ Some run → run.out ≡ true → AtLawfulExit run.program run.machine → HasOneStep setup world number
at_exit setup world number run found out it =
    one_step setup world number run found out exit _ (ap (option_map _) it.exit) only
  where
    only : (other : Instruction) → StandsAt run other → other ≡ exit
    only private at = absurd (absent _ _ it.no_step at.1)
    only (call told) at = absurd (absent _ _ it.no_call at.1)
    only exit at = refl

has_one_step : (setup : Setup) (world : World) (number : ℕ) (run : LiveRun) → IsSound setup world → run_of number world.runs.list ≡ Some run → is_stuck run.program setup.limits run.machine ≡ false → run.out ≡ true → HasOneStep setup world number
has_one_step setup world number run sound found goes out =
    elim (progress_lem run.program setup.limits run.machine goes) [
      | inl has_step ↦ at_private setup world number run found out has_step
      | inr stands ↦
          elim stands [
            | inl it ↦ at_call setup world number run sound found out it.request it.call it.rule it.no_step it.no_exit
            | inr it ↦ at_exit setup world number run found out it
          ]
    ]

pub never_stuck : NeverStuck
never_stuck setup lawful xs world run_is number run found =
    let sound = run_sound setup xs world lawful run_is in
    let goes = reached_goes setup lawful world sound.kept.runs number run found (sound.reached number run found) in
    (goes, has_one_step setup world number run sound found goes)
