use Rattle.std.proofs.lemmas.Result.{err_from_is_err_and}
use Rattle.trace.proofs.Spelling.{advance_none}
use Rattle.trace.proofs.printer.print_advance.Goals as goal

pub returns-in_err-stop-clause-text : goal.returns-in_err-stop-clause-text
returns-in_err-stop-clause-text c =
    let p = err_from_is_err_and c.from_residual.result c.from_residual.ensures.1 in
    rw p.1 (advance_none c.args.run c.args.instructions c.args.r0 c.args.stop.now c.in_err-stop.ensures.none)
