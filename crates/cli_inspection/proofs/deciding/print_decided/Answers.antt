use Rattle.std.proofs.Common.{Option, Result, subst}
use Rattle.std.specs.Prelude.{IfOk}
use Rattle.std.specs.declared.io.Error.{Error}
use Rattle.host_decision.specs.declared.undecided.Undecided.{Undecided}
use Rattle.cli_inspection.specs.Shown.{IsPrinted}
use Rattle.cli_inspection.proofs.deciding.print_decided.Goals as goal

pub returns-in-Ok-clause-decided : goal.returns-in-Ok-clause-decided
returns-in-Ok-clause-decided g c = λ is.
    let old = g.W.Write.contents c.args.out.now in
    let new = g.W.Write.contents c.print-decided.new.out in
    let config = c.in-Ok.manifest.config in
    (config, c.in-Ok.ensures.read, subst (λ decided. IfOk decided (IsPrinted c.args.extent config c.args.question.now old new)) (c.answer.ensures.done is) c.print-decided.ensures)
