use Rattle.std.proofs.Common.{List, subst}
use Rattle.std.proofs.lemmas.Result.{err_from_is_err_and}
use Rattle.world_calls.specs.declared.carried_line.CarriedLine.{CarriedLine}
use Rattle.host_decision.specs.Asked.{outcome_of}
use Rattle.host_decision.specs.Ran.{IsUndecided}
use Rattle.show_decision.proofs.Untold.{refused, undecided}
use Rattle.show_decision.proofs.printing.told_of.Goals as goal

pub returns-in_err-lines-clause-refused : goal.returns-in_err-lines-clause-refused
returns-in_err-lines-clause-refused c =
    let p = err_from_is_err_and c.from_residual.result c.from_residual.ensures.1 in
    rw (p.1, p.2) (refused c.args.config.now c.args.question.now _ c.in_err-lines.ensures.refused)

pub returns-in_err-decided-clause-refused : goal.returns-in_err-decided-clause-refused
returns-in_err-decided-clause-refused c =
    let p = err_from_is_err_and c.from_residual-in_err-decided.result c.from_residual-in_err-decided.ensures.1 in
    rw (p.1, p.2) (undecided c.args.config.now c.args.question.now c.in_ok-lines.lines.items _ c.in_ok-lines.ensures.possible c.in_ok-lines.ensures.lines
    (subst (λ (lines : List CarriedLine). IsUndecided c.args.config.now lines (outcome_of c.args.question.now.failure) c.in_err-decided.field-0.0) c.deref.ensures.value c.in_err-decided.ensures.undecided))
