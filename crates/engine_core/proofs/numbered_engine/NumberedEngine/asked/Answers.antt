use Rattle.std.proofs.Common.{subst}
use Rattle.engine_runs.specs.RunsState.{RunsState}
use Rattle.engine_core.specs.Stepping.{StopsAt}
use Rattle.engine_core.specs.Settings.{setup_over}
use Rattle.engine_core.proofs.Numbered.{asks_there, out_there}
use Rattle.engine_core.proofs.numbered_engine.NumberedEngine.asked.Goals as goal

pub to_stop-stop-requires-clause-out : goal.to_stop-stop-requires-clause-out
to_stop-stop-requires-clause-out c =
    let there = c.in-Some.ensures.place in
    rw c.place_for_machine.ensures (out_there c.self.inside.parts.runs.runs.list c.in-Some.place c.args.run there.0 there.1 there.2 there.3)

pub returns-clause-asked : goal.returns-clause-asked
returns-clause-asked c =
    let there = c.in-Some.ensures.place in
    rw (← c.self.view_is, c.request_of.ensures) (asks_there (setup_over c.self.inside.config.now c.self.inside.over.world) c.self.inside.parts.runs.runs.list c.args.run c.in-Some.place there.0 c.to_stop-stop.new.to c.to_stop-stop.result.0 c.to_stop-stop.result.1 there.1 there.3
    (subst (λ (runs : RunsState). StopsAt (setup_over c.self.inside.config.now c.self.inside.over.world) runs.runs.list c.in-Some.place c.to_stop-stop.new.to c.to_stop-stop.result.0 c.to_stop-stop.result.1) c.place_for_machine.ensures c.to_stop-stop.ensures))
