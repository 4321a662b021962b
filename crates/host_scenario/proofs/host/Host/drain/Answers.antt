use Rattle.std.proofs.Common.{List, Result, ap, subst, sym}
use Rattle.std.specs.Prelude.{OnOk}
use Rattle.host_scenario.proofs.Passes.{kept_served}
use Rattle.workers.specs.Recorded.{AreRecorded}
use Rattle.workers.specs.Serving.{SeatState}
use Rattle.host_scenario.specs.declared.host.RunFault.{RunFault}
use Rattle.host_scenario.proofs.host.Host.drain.Goals as goal

pub returns-in-None-clause-kept : goal.returns-in-None-clause-kept
returns-in-None-clause-kept g c kept =
    let served = subst (λ (r : Result (Unit {0}) RunFault). OnOk r (AreRecorded c.replace-seats.result.items c.serve_by-back.result.0.items)) c.in-Ok.is c.serve_by-back.ensures.recorded in
    kept_served c.args.self.now.inbox c.args.self.now.put c.args.self.now.take c.take.new.pass c.args.self.now.seats.items c.replace.new.dest.items
    (subst (λ (xs : List SeatState). AreRecorded xs c.replace.new.dest.items) (ap (λ v. v.items) c.replace-seats.ensures.value)
    (subst (λ (xs : List SeatState). AreRecorded c.replace-seats.result.items xs) (sym (ap (λ v. v.items) c.replace.ensures.after)) served))
    c.in-None.ensures.taken.0 kept
