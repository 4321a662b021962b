use Rattle.std.proofs.lemmas.Result.{err_from_is_err_and}
use Rattle.show_decision.proofs.NoTable.{untabled}
use Rattle.show_decision.proofs.table.Table.open.Goals as goal

pub returns-in_err-lines-clause-refused : goal.returns-in_err-lines-clause-refused
returns-in_err-lines-clause-refused c =
    let p = err_from_is_err_and c.from_residual.result c.from_residual.ensures.1 in
    rw (p.1, p.2) (untabled c.args.config.now c.args.question.now _ c.in_err-lines.ensures.refused)
