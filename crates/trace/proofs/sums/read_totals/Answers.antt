use Rattle.trace.proofs.LastLine.{no_end, no_fields, sums_reads}
use Rattle.trace.proofs.sums.read_totals.Goals as goal

pub returns-in_err-rest : goal.returns-in_err-rest
returns-in_err-rest c = rw c.from_residual.ensures (no_end c.args.line.now c.in_err-rest.ensures)

pub returns-in-None : goal.returns-in-None
returns-in-None c = no_fields c.args.line.now c.in_ok-rest.rest.now c.in_ok-rest.ensures c.in-None.ensures

pub returns-in-Some : goal.returns-in-Some
returns-in-Some c = rw c.sums_of.ensures (sums_reads c.args.line.now c.in_ok-rest.rest.now c.in_ok-rest.ensures c.in-Some.held c.in-Some.ensures)
