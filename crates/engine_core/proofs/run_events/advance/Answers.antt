use Rattle.std.proofs.Common.{◌≡◌, refl, sym, subst, ◌∙◌, rules}
use Rattle.engine_core.specs.Answers.{StopsByCode, stopped_at}
use Rattle.engine_core.specs.Replies.{given_advanced}
use Rattle.engine_core.proofs.StopEnds.{code_of}
use Rattle.engine_core.proofs.Going.{is_admitted}
use Rattle.engine_core.proofs.Performing.{given_so, gives_advanced, r0_same, takes_over}
use Rattle.engine_core.proofs.run_events.advance.Goals as goal

-- the code that a final call names is one
pub recorded-requires : goal.recorded-requires
recorded-requires c =
    let of = c.requires.of in
    let admitted = is_admitted of.0 of.1 c.args.transport.now c.args.runs.now c.args.run.number c.args.place c.args.run.segment of.2 c.requires.out c.requires.place in
    subst StopsByCode (sym c.stop-at.ensures.stop) (code_of c.args.transport.now c.args.runs.now c.args.place c.args.run.segment c.stop-at.ensures.stopped.segment c.args.run.number admitted)

pub returns-clause-told : goal.returns-clause-told
returns-clause-told c =
    let stop : c.in-Ok.stop ≡ stopped_at c.args.run.segment.stop = search rules in
    rw (c.number-number.ensures, c.steps-instructions.ensures.steps, stop, c.r0.ensures) refl

pub returns-clause-performs : goal.returns-clause-performs
returns-clause-performs c setup history kept =
    takes_over setup c.args.transport.now c.take_over-answer.new.transport c.args.runs.now c.take_over-answer.new.runs c.args.run c.args.place c.number-number.result c.steps-instructions.result c.in-Ok.stop c.r0.result (given_advanced c.take_over-answer.result)
    c.number-number.ensures c.steps-instructions.ensures.steps (search rules) c.take_over-answer.ensures.tokens (r0_same c.take_over-answer.result ∙ sym c.r0.ensures) (gives_advanced c.take_over-answer.result) c.requires.out c.requires.place (rw c.r0.ensures c.take_over-answer.ensures.leads)
    (given_so setup c.args.transport.now c.take_over-answer.new.transport c.args.runs.now c.take_over-answer.new.runs c.args.run c.args.place c.take_over-answer.result c.requires.out c.requires.place c.take_over-answer.ensures.becomes)
