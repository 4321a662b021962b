use Rattle.std.proofs.Common.{rules, subst}
use Rattle.world.specs.TotalsOf.{TotalsOf}
use Rattle.engine_core.specs.EngineState.{EngineState}
use Rattle.engine_core.proofs.engine.Engine.totals.Goals as goal

pub returns-clause-of : goal.returns-clause-of
returns-clause-of c =
    subst (λ (s : EngineState). TotalsOf s.setup s.history (record { history = c.len.result; frozen = c.frozen.result; active = c.active.result; runs = c.len-2.result })) c.self.view_is
    (_, c.self.invariant.0.run.run, search rules)

pub returns-clause-run : goal.returns-clause-run
returns-clause-run c = rw (← c.self.view_is) c.self.invariant.0.run
