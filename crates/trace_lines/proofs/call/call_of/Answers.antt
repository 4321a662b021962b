use Rattle.trace_lines.proofs.Reported.{finished}
use Rattle.trace_lines.proofs.call.call_of.Goals as goal

pub returns-in-Complete : goal.returns-in-Complete
returns-in-Complete c = λ text e. rw c.in-Complete.is (c.complete_of.ensures (finished c.args.held.now text (rw c.in-Complete.is at e)))
