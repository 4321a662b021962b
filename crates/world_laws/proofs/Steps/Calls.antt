-- A call of a helper that is an event, with all that it does.
use Rattle.std.proofs.Common.{◌≡◌, ℕ, true, Some, sym, subst}
use Rattle.helpers.specs.declared.request.Request.{Request}
use Rattle.helpers.specs.declared.request.Answer.{Answer}
use Rattle.bpf_semantics.specs.Calls.{meets_rule}
use Rattle.bpf_semantics.specs.Step.{request_at}
use Rattle.world.specs.World.{Setup, World}
use Rattle.world.specs.Told.{Told, told_of}
use Rattle.world.specs.Event.{call, Event, executes, Reply}
use Rattle.world.specs.RunSteps.{answers, step_request}
use Rattle.world.specs.Step.{WorldStep}
use Rattle.world_laws.proofs.Steps.Running.{Executes, call_parts}
use Rattle.world_laws.proofs.Steps.Does.{FreezeDeed, CcbDeed, LeavesTheRest}
use Rattle.world_laws.proofs.Deeds.{does_all}

-- its run goes on with the answer
pub record Asks (setup : Setup) (before : World) (event : Event) (reply : Reply) (after : World) : Type 0 where
  pub request : Request
  pub it : Executes before event (call (told_of request))
  pub call_is : request_at it.run.program it.run.machine ≡ Some request
  pub rule : meets_rule setup.limits it.run.machine request ≡ true
  pub given : Answer
  pub between : World
  pub answer : (reply, after) ≡ answers between it.run request given
  pub freezes : FreezeDeed setup before it.run request given between
  pub ccbs : CcbDeed before it.run request given between
  pub rest : LeavesTheRest before between

by_request : (setup : Setup) (before : World) (event : Event) (reply : Reply) (after : World) (request : Request) (it : Executes before event (call (told_of request))) → request_at it.run.program it.run.machine ≡ Some request → meets_rule setup.limits it.run.machine request ≡ true → step_request before it.run request ≡ Some (reply, after) → Asks setup before event reply after
by_request setup before event reply after request it call_is rule e =
    let does = does_all setup before it.run request rule (reply, after) e in
    record {
      request = request;
      it = it;
      call_is = call_is;
      rule = rule;
      given = does.given;
      between = does.between;
      answer = does.answer;
      freezes = does.freezes;
      ccbs = does.ccbs;
      rest = does.rest;
    }

-- a call that is an event, with all that it does
pub asks_of : (setup : Setup) (before : World) (number : ℕ) (told : Told) (reply : Reply) (after : World) → WorldStep setup before (executes number (call told)) reply after → Asks setup before (executes number (call told)) reply after
asks_of setup before number told reply after e =
    let c = call_parts setup before number told reply after e in
    subst (λ (t : Told). (it : Executes before (executes number (call told)) (call t)) → request_at it.run.program it.run.machine ≡ Some c.request → meets_rule setup.limits it.run.machine c.request ≡ true → step_request before it.run c.request ≡ Some (reply, after) → Asks setup before (executes number (call told)) reply after)
    (sym c.told_is) (by_request setup before (executes number (call told)) reply after c.request) c.it c.call_is c.rule c.step
