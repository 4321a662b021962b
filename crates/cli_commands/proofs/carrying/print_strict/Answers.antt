use Rattle.std.proofs.Common.{arith, inl, inr, rules}
use Rattle.cli_commands.proofs.carrying.print_strict.Goals as goal

pub returns-in-Err-clause-failed : goal.returns-in-Err-clause-failed
returns-in-Err-clause-failed g c = λ is. inl (search rules, (c.in-Err.fault, c.in-Err.ensures.fault (c.report.ensures.refused is)))

pub returns-in-Ok-clause-failed : goal.returns-in-Ok-clause-failed
returns-in-Ok-clause-failed g c = λ is.
    inr (c.in-Ok.trace, c.in-Ok.steps, c.in-Ok.ensures.trace, c.in-Ok.ensures.said, c.in-Ok.ensures.asked, c.print_counted.ensures.written (λ two. omega (arith, is, two)), c.print_counted.ensures.told is)

pub returns-in-Ok-clause-accepted : goal.returns-in-Ok-clause-accepted
returns-in-Ok-clause-accepted g c = λ is. c.in-Ok.ensures.accepted

pub returns-in-Ok-clause-out : goal.returns-in-Ok-clause-out
returns-in-Ok-clause-out g c = λ is.
    (c.in-Ok.trace, c.in-Ok.ensures.trace, (c.in-Ok.steps, c.in-Ok.ensures.said, c.in-Ok.ensures.asked), c.print_counted.ensures.written (λ two. omega (arith, is, two)), c.print_counted.ensures.none is)

pub returns-in-Ok-clause-output : goal.returns-in-Ok-clause-output
returns-in-Ok-clause-output g c = λ is.
    let printed = c.print_counted.ensures.written (λ two. omega (arith, is, two)) in
    (printed.0, printed.2, (c.in-Ok.trace, c.in-Ok.ensures.trace, printed.1))
