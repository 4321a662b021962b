use Rattle.std.proofs.Common.{ap, ◌∙◌}
use Rattle.engine_core.specs.RunState.{RunState, StoppedState, before_stop}
use Rattle.engine_core.proofs.Going.{goes_apart}
use Rattle.engine_core.proofs.engine.Engine.advance.Goals as goal

pub returns-in-Ok-go_on-clause-goes : goal.returns-in-Ok-go_on-clause-goes
returns-in-Ok-go_on-clause-goes c =
    let stopped : StoppedState = c.at_stop_of.result in
    goes_apart c.args.self.now.setup c.args.self.now.world c.go_on.new.self.world (before_stop stopped) c.args.run stopped.segment c.args.segment c.in-Ok-go_on.answer
    (ap (λ (s : StoppedState). s.number) c.at_stop_of.ensures ∙ ap (λ (r : RunState). r.number) c.in-Ok.ensures.start.0)
    (ap (λ (s : StoppedState). s.segment.program) c.at_stop_of.ensures ∙ ap (λ (r : RunState). r.program) c.in-Ok.ensures.start.0)
    (ap (λ (s : StoppedState). s.segment.stop) c.at_stop_of.ensures) c.in-Ok-go_on.ensures.admitted c.in-Ok-go_on.ensures.goes
