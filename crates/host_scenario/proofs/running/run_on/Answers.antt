use Rattle.std.proofs.Common.{◌≡◌, ◌≢◌, None, length, subst, sym, ◌∙◌}
use Rattle.world_calls.specs.declared.trace.Trace.{Trace}
use Rattle.world_calls.specs.declared.trace.Version.{Version}
use Rattle.world.specs.World.{version_of}
use Rattle.workers.specs.Recorded.{completions_of}
use Rattle.host_scenario.specs.Faults.{line_of}
use Rattle.host_scenario.specs.Served.{completes_of}
use Rattle.host_scenario.specs.Traces.{IsOfScenario, IsTraceOf}
use Rattle.host_scenario.specs.declared.host.RunFault.{RunFault}
use Rattle.host_scenario.proofs.Lent.{both_ok, if_failure, of_failure, of_success, on_success, when_err, when_ok}
use Rattle.host_scenario.proofs.Whole.{in_order, of_run, of_scenario, some_line}
use Rattle.host_scenario.proofs.running.run_on.Goals as goal

pub returns-in-Ok-clause-trace : goal.returns-in-Ok-clause-trace
returns-in-Ok-clause-trace g c =
    when_ok _ _ c.judged.result (λ (trace : Trace) so. subst (λ (t : Trace). IsTraceOf g.B.Origin.setup t.version t.records.items t.totals) (sym so.0) c.in-Ok.ensures.trace) c.judged.ensures.whole

pub returns-in-Ok-clause-asked : goal.returns-in-Ok-clause-asked
returns-in-Ok-clause-asked g c =
    let host = c.carry_out_all-carried_out.new.self in
    let outcome = c.carry_out_all-carried_out.result.1 in
    let counts = c.carry_out_all-carried_out.result.0 in
    let told = c.in-Ok.ended.trace.records.items in
    let left = c.in-Ok.ended.left.items in
    when_ok _ _ c.judged.result (λ (trace : Trace) so.
    subst (λ (t : Trace). IsOfScenario t.version c.args.scenario.now t.records.items) (sym so.0.0.0)
    (subst (λ (version : Version). IsOfScenario version c.args.scenario.now told) (sym c.in-Ok.ensures.trace.version_is)
    (of_scenario (version_of g.B.Origin.setup) c.args.scenario.now host.caller told (length host.seats.items) host.put.account.put left c.in-Ok.ensures.made
    (on_success _ outcome so.0.0.1 c.carry_out_all-carried_out.ensures.asked)
    (so.0.1.0 ∙ of_success _ _ (counts.calls ≡ length host.caller.mine) outcome so.0.0.1 (λ done same. same) c.carry_out_all-carried_out.ensures.calls)
    (c.in-Ok.ensures.taken (on_success _ outcome so.0.0.1 c.carry_out_all-carried_out.ensures.kept))
    (so.0.1.1 ∙ of_success _ _ (counts.completions ≡ length host.put.account.put) outcome so.0.0.1 (λ done same. same) c.carry_out_all-carried_out.ensures.completions)
    (on_success _ outcome so.0.0.1 c.carry_out_all-carried_out.ensures.put) so.0.0.2 so.1)))
    (both_ok _ _ c.judged.result (both_ok _ _ c.judged.result c.judged.ensures.whole c.judged.ensures.counted) c.judged.ensures.turns)

pub returns-in-Ok-clause-in_order : goal.returns-in-Ok-clause-in_order
returns-in-Ok-clause-in_order g c =
    let host = c.carry_out_all-carried_out.new.self in
    let outcome = c.carry_out_all-carried_out.result.1 in
    let counts = c.carry_out_all-carried_out.result.0 in
    let told = c.in-Ok.ended.trace.records.items in
    let left = c.in-Ok.ended.left.items in
    when_ok _ _ c.judged.result (λ (trace : Trace) so one.
    subst (λ (t : Trace). completions_of t.records.items ≡ completes_of c.args.scenario.now) (sym so.0.0)
    (in_order c.args.scenario.now told (length host.seats.items) host.put.account.put left
    (c.in-Ok.ensures.taken (on_success _ outcome so.0.1 c.carry_out_all-carried_out.ensures.kept))
    (so.1.1 ∙ of_success _ _ (counts.completions ≡ length host.put.account.put) outcome so.0.1 (λ done same. same) c.carry_out_all-carried_out.ensures.completions)
    (on_success _ outcome so.0.1 c.carry_out_all-carried_out.ensures.put) so.0.2
    (c.carry_out_all-carried_out.ensures.all ∙ (c.in_ok-host.ensures.all ∙ one))))
    (both_ok _ _ c.judged.result c.judged.ensures.whole c.judged.ensures.counted)

pub returns-in-Ok-clause-fault : goal.returns-in-Ok-clause-fault
returns-in-Ok-clause-fault g c =
    let host = c.carry_out_all-carried_out.new.self in
    let outcome = c.carry_out_all-carried_out.result.1 in
    let told = c.in-Ok.ended.trace.records.items in
    let left = c.in-Ok.ended.left.items in
    when_err _ _ c.judged.result (λ (fault : RunFault) so line named.
    let some : line_of fault ≢ None = some_line line fault named in
    let it = so some in
    of_run g.B.Origin.setup c.args.scenario.now host.caller c.in-Ok.ended.trace.version told c.in-Ok.ended.trace.totals fault (length host.seats.items) c.carry_out_all-carried_out.result.0.steps host.put.account.put left c.in-Ok.ensures.trace c.in-Ok.ensures.made
    (if_failure _ outcome fault it.0 c.carry_out_all-carried_out.ensures.fault)
    (λ names. (
      it.1 ∙ of_failure _ _ outcome fault it.0 c.carry_out_all-carried_out.ensures.calls names,
      c.in-Ok.ensures.taken (if_failure _ outcome fault it.0 c.carry_out_all-carried_out.ensures.stays names),
      it.2 ∙ of_failure _ _ outcome fault it.0 c.carry_out_all-carried_out.ensures.completions names,
      it.3,
    )) line named)
    c.judged.ensures.fault
