use Rattle.std.proofs.Common.{◌≡◌, ap, subst, ◌∙◌}
use Rattle.bpf_semantics.specs.MachineState.{MachineState}
use Rattle.engine_core.specs.RunState.{IsStopped, StoppedState, before_stop}
use Rattle.engine_core.proofs.Going.{arrives_at, goes_as}
use Rattle.engine_core.proofs.stopped.Stopped.take_over.Goals as goal

pub take_over-requires : goal.take_over-requires
take_over-requires c =
    arrives_at c.requires.of.0 c.requires.of.1 c.args.transport.now c.args.runs.now c.args.self c.args.place c.self.inside.to.value c.args.stop.now c.requires.of.2 c.requires.out c.requires.place
    (subst IsStopped c.self.view_is c.self.invariant) (ap (λ (s : StoppedState). s.segment.to) c.self.view_is) c.requires.stop

pub returns-in-Goes-clause-becomes : goal.returns-in-Goes-clause-becomes
returns-in-Goes-clause-becomes c =
    let on = c.in-Goes.ensures.continues in
    let it = c.requires.place in
    let machine : c.copy_from.new.self ≡ on.machine = c.copy_from.ensures ∙ c.machine.ensures _ (on.stands it.0 it.2) in
    goes_as c.args.self c.new.result c.self.inside.to.value c.args.stop.now c.args.runs.now.runs.list c.take_over.new.runs.runs.list c.args.place on
    (ap (λ (s : StoppedState). s.segment.to) c.self.view_is) c.requires.stop
    (c.new.ensures ∙ (ap (λ (s : StoppedState). record (before_stop s) { machine = c.copy_from.new.self }) c.self.view_is ∙ ap (λ (m : MachineState). record (before_stop c.args.self) { machine = m }) machine))
