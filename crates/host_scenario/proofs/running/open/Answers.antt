use Rattle.std.proofs.Common.{ap}
use Rattle.host_scenario.proofs.Passes.{kept_new}
use Rattle.host_scenario.proofs.running.open.Goals as goal

pub returns-clause-kept : goal.returns-clause-kept
returns-clause-kept g c =
    kept_new g.B.Origin.setup g.B.Origin.begun c.in-Ok-new.made.0 c.args.workers c.in-Ok-new.made.1.items c.in-Ok-new.made.2.items c.remove-take.new.self.items c.remove-put.result c.remove-take.result c.in-Ok-seated.seats.items
    (ap (λ s. s.puts) c.in-Ok-new.ensures.inbox) (ap (λ s. s.takes) c.in-Ok-new.ensures.inbox) c.in-Ok-new.ensures.puts c.in-Ok-new.ensures.takes c.remove-put.ensures.value c.remove-take.ensures.value c.remove-take.ensures.by_index.2
    c.in-Ok-seated.ensures.seated c.in-Ok-seated.ensures.callers
