use Rattle.std.proofs.Common.{◌≡◌, ◌∷◌, ◌++◌, ◌+◌, List, [], arith, ap, length, length-append, refl, rules, subst, sym, ◌∙◌}
use Rattle.world.specs.World.{version_of}
use Rattle.scenario.specs.Left.{steps_left}
use Rattle.scenario.specs.Steps.{command_seen, step_seen}
use Rattle.host_scenario.specs.Asked.{call_of}
use Rattle.host_scenario.specs.Served.{completion_for}
use Rattle.host_scenario.proofs.Counted.{asks_one}
use Rattle.host_scenario.proofs.Holding.{on_ok}
use Rattle.host_scenario.proofs.Passes.{same_kept}
use Rattle.host_scenario.proofs.Steps.{Done, all_done, one_more, still_there, stopped_at}
use Rattle.host_scenario.proofs.Walked.{all_passed, is_here, is_within, walks_on}
use Rattle.host_scenario.proofs.host.Host.carry_out_all.Goals as goal

pub returns-in-Err-clause-fault : goal.returns-in-Err-clause-fault
returns-in-Err-clause-fault g c =
    let all = c.args.scenario.now in
    let step = c.in-Some.step in
    let passed = c.loop-step.yielded in
    let next : steps_left c.loop-step.step-iterator ≡ step_seen step ∷ steps_left c.next.new.self = search rules in
    let walks = c.loop-step.invariant.walks in
    stopped_at (version_of g.B.Origin.setup) all (length passed) (step_seen step) c.loop-step.self.caller.mine c.carry_out.new.self.caller.mine c.loop-step.self.held.tokens c.loop-step.self.put.account.put c.carry_out.new.self.put.account.put c.in-Err.fault c.loop-step.carried c.loop-step.invariant.carried c.loop-step.invariant.done
    (is_within all passed step _ _ walks next) (is_here all passed step _ _ walks next) c.in-Err.ensures.fault
    (λ named. ap (λ pass. pass.account.put) (c.in-Err.ensures.stays named).1)

pub returns-in-Err-clause-stays : goal.returns-in-Err-clause-stays
returns-in-Err-clause-stays g c named =
    let same = c.in-Err.ensures.stays named in
    same_kept _ _ _ _ _ _ _ _ same.0 same.1 same.2 same.3 c.loop-step.invariant.kept

pub loop-step-preserved : goal.loop-step-preserved
loop-step-preserved g c =
    let all = c.args.scenario.now in
    let step = c.in-Some.step in
    let passed = c.loop-step.yielded in
    let next : steps_left c.loop-step.step-iterator ≡ step_seen step ∷ steps_left c.next.new.self = search rules in
    let walks = c.loop-step.invariant.walks in
    let more : length (passed ++ step ∷ []) ≡ length passed + 1 = length-append passed (step ∷ []) in
    record {
      walks = walks_on all passed step _ _ walks next;
      done = subst (λ n. Done (version_of g.B.Origin.setup) all n c.carry_out.new.self.caller.mine c.carry_out.new.self.held.tokens c.carry_out.new.self.put.account.put) (sym more)
          (one_more (version_of g.B.Origin.setup) all (length passed) (step_seen step) c.loop-step.self.caller.mine c.carry_out.new.self.caller.mine c.loop-step.self.held.tokens c.carry_out.new.self.held.tokens c.loop-step.self.put.account.put c.carry_out.new.self.put.account.put c.loop-step.invariant.done
          (is_within all passed step _ _ walks next) (is_here all passed step _ _ walks next) c.in_default.ensures.asked c.in_default.ensures.holds c.in_default.ensures.put);
      kept = c.in_default.ensures.kept c.loop-step.invariant.kept;
      all = c.carry_out.ensures.all ∙ c.loop-step.invariant.all;
      carried = omega (arith, c.loop-step.invariant.carried, more);
      calls = omega (arith, c.loop-step.invariant.calls, c.calls_in-calls.ensures.calls (version_of g.B.Origin.setup), asks_one (call_of (version_of g.B.Origin.setup) (command_seen step.call)) c.loop-step.self.caller.mine c.carry_out.new.self.caller.mine c.in_default.ensures.asked);
      completions = omega (arith, c.loop-step.invariant.completions, c.completions_for-completions.ensures.many, ap length c.in_default.ensures.put, length-append c.loop-step.self.put.account.put (completion_for (command_seen step.call)));
      few_calls = omega (arith, c.loop-step.invariant.few_calls, c.calls_in-calls.ensures.few, more);
      few_completions = omega (arith, c.loop-step.invariant.few_completions, c.completions_for-completions.ensures.few, more);
    }

pub returns-in-Err-clause-calls : goal.returns-in-Err-clause-calls
returns-in-Err-clause-calls g c = λ named.
    omega (arith, c.loop-step.invariant.calls, still_there (step_seen c.in-Some.step) c.loop-step.self.caller.mine c.carry_out.new.self.caller.mine c.in-Err.fault c.in-Err.ensures.fault named)

pub returns-in-Err-clause-completions : goal.returns-in-Err-clause-completions
returns-in-Err-clause-completions g c = λ named.
    omega (arith, c.loop-step.invariant.completions, ap (λ pass. length pass.account.put) (c.in-Err.ensures.stays named).1)

pub returns-clause-kept : goal.returns-clause-kept
returns-clause-kept g c = on_ok c.drain.result (λ keeps. keeps c.loop-step.invariant.kept) c.drain.ensures.kept
