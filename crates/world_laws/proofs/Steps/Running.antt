-- An instruction of a run that is an event: the run is live and out, and its machine stands there.
use Rattle.std.proofs.Common.{◌≡◌, ℕ, true, Option, Some, None, inl, inr, refl, ap, sym, ◌∙◌}
use Rattle.std.specs.Option.{option_map, option_and_then}
use Rattle.std.proofs.lemmas.Bool.{cases_Bool, cond-true, cond-false, and_parts}
use Rattle.helpers.specs.declared.limits.HelperLimits.{HelperLimits}
use Rattle.helpers.specs.declared.request.Request.{Request}
use Rattle.bpf_semantics.specs.MachineState.{MachineState}
use Rattle.bpf_semantics.specs.Calls.{meets_rule}
use Rattle.bpf_semantics.specs.Step.{private_step, request_at, exit_at}
use Rattle.world.specs.World.{Setup, LiveRun, World}
use Rattle.world.specs.Lookups.{run_of}
use Rattle.world.specs.Told.{Told, told_of, is_told}
use Rattle.world.specs.Event.{Instruction, private, call, exit, Event, executes, Reply, went_on, result}
use Rattle.world.specs.RunSteps.{goes_on, step_request, may_call, step_helper, ends, step_run, step_executes}
use Rattle.world.specs.Step.{WorldStep}
use Rattle.world_laws.proofs.Telling.{same_told}

-- a run that is out executes its next instruction
pub record Executes (before : World) (event : Event) (instruction : Instruction) : Type 0 where
  pub number : ℕ
  pub event_is : event ≡ executes number instruction
  pub run : LiveRun
  pub found : run_of number before.runs.list ≡ Some run
  pub out : run.out ≡ true

-- a private one
pub record StepParts (before : World) (event : Event) (reply : Reply) (after : World) : Type 0 where
  pub it : Executes before event private
  pub machine : MachineState
  pub step : private_step it.run.program it.run.machine ≡ Some machine
  pub reply_is : reply ≡ went_on
  pub after_is : after ≡ goes_on before it.run machine

-- the exit
pub record Exits (before : World) (event : Event) (reply : Reply) (after : World) : Type 0 where
  pub it : Executes before event exit
  pub r0 : ℕ
  pub exit_is : exit_at it.run.program it.run.machine ≡ Some r0
  pub reply_is : reply ≡ result r0
  pub after_is : after ≡ ends before it.run

-- a call, with what the history tells of it
pub record IsCall (limits : HelperLimits) (before : World) (event : Event) (told : Told) (reply : Reply) (after : World) : Type 0 where
  pub it : Executes before event (call told)
  pub request : Request
  pub call_is : request_at it.run.program it.run.machine ≡ Some request
  pub told_is : told ≡ told_of request
  pub rule : meets_rule limits it.run.machine request ≡ true
  pub step : step_request before it.run request ≡ Some (reply, after)

pub some_is : (p q : Reply × World) → Some p ≡ Some q → q ≡ p
some_is p q e = let same : p ≡ q = cc in sym same

pub pair_parts : (p q : Reply × World) → q ≡ p → (q.0 ≡ p.0) × (q.1 ≡ p.1)
pair_parts p q e = (ap (λ (x : Reply × World). x.0) e, ap (λ (x : Reply × World). x.1) e)

private_found : (before : World) (event : Event) (reply : Reply) (after : World) (it : Executes before event private) (o : Option MachineState) → private_step it.run.program it.run.machine ≡ o → option_map (λ (machine : MachineState). let x : Reply × World = (went_on, goes_on before it.run machine) in x) o ≡ Some (reply, after) → StepParts before event reply after
private_found before event reply after it None step e = absurd cc
private_found before event reply after it (Some machine) step e =
    let last = some_is _ _ e in
    record { it = it; machine = machine; step = step; reply_is = ap (λ (x : Reply × World). x.0) last; after_is = ap (λ (x : Reply × World). x.1) last }

-- a call that is an event is the one that is told, by its rule
is_called : (limits : HelperLimits) (world : World) (run : LiveRun) (told : Told) (request : Request) (step : Reply × World) → step_helper limits world run told request ≡ Some step → (told ≡ told_of request) × (meets_rule limits run.machine request ≡ true) × (step_request world run request ≡ Some step)
is_called limits world run told request step e = elim (cases_Bool (may_call limits run told request)) [
  | inl may ↦
      let parts = and_parts (is_told told (told_of request)) (meets_rule limits run.machine request) may in
      (same_told told (told_of request) parts.0, parts.1, sym (cond-true (may_call limits run told request) _ _ may) ∙ e)
  | inr broken ↦ let none = sym (cond-false (may_call limits run told request) _ _ broken) ∙ e in absurd cc
]

call_found : (limits : HelperLimits) (before : World) (event : Event) (told : Told) (reply : Reply) (after : World) (it : Executes before event (call told)) (o : Option Request) → request_at it.run.program it.run.machine ≡ o → option_and_then (step_helper limits before it.run told) o ≡ Some (reply, after) → IsCall limits before event told reply after
call_found limits before event told reply after it None call_is e = absurd cc
call_found limits before event told reply after it (Some request) call_is e =
    let may = is_called limits before it.run told request (reply, after) e in
    record { it = it; request = request; call_is = call_is; told_is = may.0; rule = may.1; step = may.2 }

exit_found : (before : World) (event : Event) (reply : Reply) (after : World) (it : Executes before event exit) (o : Option ℕ) → exit_at it.run.program it.run.machine ≡ o → option_map (λ (r0 : ℕ). let x : Reply × World = (result r0, ends before it.run) in x) o ≡ Some (reply, after) → Exits before event reply after
exit_found before event reply after it None exit_is e = absurd cc
exit_found before event reply after it (Some r0) exit_is e =
    let last = some_is _ _ e in
    record { it = it; r0 = r0; exit_is = exit_is; reply_is = ap (λ (x : Reply × World). x.0) last; after_is = ap (λ (x : Reply × World). x.1) last }

-- a run that is out, and its instruction
pub record Instructs (limits : HelperLimits) (before : World) (number : ℕ) (instruction : Instruction) (reply : Reply) (after : World) : Type 0 where
  pub it : Executes before (executes number instruction) instruction
  pub step : step_run limits before it.run instruction ≡ Some (reply, after)

executes_found : (limits : HelperLimits) (before : World) (number : ℕ) (instruction : Instruction) (reply : Reply) (after : World) (o : Option LiveRun) → run_of number before.runs.list ≡ o → step_executes limits before instruction o ≡ Some (reply, after) → Instructs limits before number instruction reply after
executes_found limits before number instruction reply after None found e = absurd cc
executes_found limits before number instruction reply after (Some run) found e =
    elim (cases_Bool run.out) [
      | inl out ↦ record {
        it = record { number = number; event_is = refl; run = run; found = found; out = out };
        step = sym (cond-true run.out _ _ out) ∙ e;
      }
      | inr parked ↦ let none = sym (cond-false run.out _ _ parked) ∙ e in absurd cc
    ]

pub executes_parts : (setup : Setup) (before : World) (number : ℕ) (instruction : Instruction) (reply : Reply) (after : World) → WorldStep setup before (executes number instruction) reply after → Instructs setup.limits before number instruction reply after
executes_parts setup before number instruction reply after e = executes_found setup.limits before number instruction reply after (run_of number before.runs.list) refl e

pub private_parts : (setup : Setup) (before : World) (number : ℕ) (reply : Reply) (after : World) → WorldStep setup before (executes number private) reply after → StepParts before (executes number private) reply after
private_parts setup before number reply after e =
    let i = executes_parts setup before number private reply after e in
    private_found before (executes number private) reply after i.it (private_step i.it.run.program i.it.run.machine) refl i.step

pub call_parts : (setup : Setup) (before : World) (number : ℕ) (told : Told) (reply : Reply) (after : World) → WorldStep setup before (executes number (call told)) reply after → IsCall setup.limits before (executes number (call told)) told reply after
call_parts setup before number told reply after e =
    let i = executes_parts setup before number (call told) reply after e in
    call_found setup.limits before (executes number (call told)) told reply after i.it (request_at i.it.run.program i.it.run.machine) refl i.step

pub exit_parts : (setup : Setup) (before : World) (number : ℕ) (reply : Reply) (after : World) → WorldStep setup before (executes number exit) reply after → Exits before (executes number exit) reply after
exit_parts setup before number reply after e =
    let i = executes_parts setup before number exit reply after e in
    exit_found before (executes number exit) reply after i.it (exit_at i.it.run.program i.it.run.machine) refl i.step
