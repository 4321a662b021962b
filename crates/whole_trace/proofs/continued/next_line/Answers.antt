use Rattle.trace.proofs.Cuts.{first_line, no_first_line}
use Rattle.whole_trace.proofs.Lines.{no_feed, none_read, whatever}
use Rattle.whole_trace.proofs.continued.next_line.Goals as goal

pub returns-in_err-line-clause-none : goal.returns-in_err-line-clause-none
returns-in_err-line-clause-none c = whatever c.from_residual.result (no_feed c.args.version c.args.text.now (no_first_line c.args.text.now c.in_err-line.ensures.cases))

pub returns-in-None-clause-none : goal.returns-in-None-clause-none
returns-in-None-clause-none c = none_read c.args.version c.args.text.now c.in_ok-line.line.now c.in_ok-line.rest.now (first_line c.args.text.now c.in_ok-line.line c.in_ok-line.rest c.in_ok-line.ensures.cases) c.in-None.ensures
