use Rattle.std.proofs.Common.{◌≡◌, ap}
use Rattle.std.proofs.lemmas.Result.{err_from_is_err_and}
use Rattle.host_recovery.specs.Carries.{CarryingState}
use Rattle.host_recovery.specs.declared.carrying.TookCarried.TheVariants as took
use Rattle.host_recovery.proofs.CarriedReached.{breaks_in_order, tells_carried, took_carried_it, took_line}
use Rattle.host_recovery.proofs.Reached.{some_text}
use Rattle.host_recovery.proofs.carried.take_line.Goals as goal

pub returns-in_err-take-clause-says : goal.returns-in_err-take-clause-says
returns-in_err-take-clause-says c =
    let p = err_from_is_err_and c.from_residual.result c.from_residual.ensures.1 in
    rw (p.1, p.2) (λ config from now carries. some_text from)

pub returns-in-Line-clause-says : goal.returns-in-Line-clause-says
returns-in-Line-clause-says c = λ config from now carries.
    let its = took_carried_it c.args.carrying.now c.take.new.self c.line.result.now c.args.lines.now.line c.in_ok-take.field-0 took.Line c.in-Line.is c.line.ensures.bytes c.in_ok-take.ensures in
    took_line config from now c.args.lines.now.line c.args.lines.now.ahead c.args.carrying.now c.take.new.self carries its

pub returns-in-OutOfOrder-clause-says : goal.returns-in-OutOfOrder-clause-says
returns-in-OutOfOrder-clause-says c = λ config from now carries.
    let its = took_carried_it c.args.carrying.now c.take.new.self c.line.result.now c.args.lines.now.line c.in_ok-take.field-0 took.OutOfOrder c.in-OutOfOrder.is c.line.ensures.bytes c.in_ok-take.ensures in
    let count : c.carrying.inside.count ≡ c.args.carrying.now.count = cc (ap (λ (s : CarryingState). s.count) c.carrying.view_is, ap (λ (s : CarryingState). s.count) its.same) in
    tells_carried config from c.carrying.inside.count c.args.carrying.now.count c.broken.result count c.broken.ensures
    (breaks_in_order config from now c.args.carrying.now c.args.lines.now.line c.args.lines.now.ahead c.take.new.self carries its)
