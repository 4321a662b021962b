use Rattle.engine_core.proofs.Stepping.{arrives_so, codes_so, stepped}
use Rattle.engine_core.proofs.run_events.go_on_here.Goals as goal

pub recorded-requires : goal.recorded-requires
recorded-requires c =
    codes_so c.args.setting.now c.args.transport.now c.args.transport.now c.place_for_machine.new.self c.place_for_machine.new.self c.args.place c.to_stop-instructions.new.to c.to_stop-instructions.result.0 c.to_stop-instructions.result.1 c.to_stop-instructions.ensures
    c.requires.of.0 (rw c.place_for_machine.ensures c.requires.of.1)

pub take_over-onward-requires : goal.take_over-onward-requires
take_over-onward-requires c =
    arrives_so c.args.setting.now c.args.transport.now c.args.transport.now c.place_for_machine.new.self c.place_for_machine.new.self c.args.place c.to_stop-instructions.new.to c.to_stop-instructions.result.0 c.to_stop-instructions.result.1 c.to_stop-instructions.ensures
    c.requires.of.0 (rw c.place_for_machine.ensures c.requires.of.1)

pub returns-clause-step : goal.returns-clause-step
returns-clause-step c = rw (c.r0-r0.ensures, c.goes_on-goes_on.ensures, c.keep_place-2.ensures, ← c.place_for_machine.ensures) (
    stepped c.args.setting.now c.args.transport.now c.take_over-onward.new.transport c.place_for_machine.new.self c.take_over-onward.new.runs c.args.place c.to_stop-instructions.new.to c.to_stop-instructions.result.0 c.to_stop-instructions.result.1 c.to_stop-instructions.ensures
    c.take_over-onward.result c.number-run.result c.in-Ok.stop
    (c.number-run.ensures c.to_stop-instructions.ensures.next.out.it c.to_stop-instructions.ensures.next.out.there) c.in-Ok.ensures
    c.take_over-onward.ensures.leads c.take_over-onward.ensures.continues c.take_over-onward.ensures.tokens)
