use Rattle.std.proofs.Common.{sym, ◌∙◌}
use Rattle.trace.proofs.Answered.{called}
use Rattle.trace.proofs.entry.read_called.Goals as goal

pub returns-in-Some-2 : goal.returns-in-Some-2
returns-in-Some-2 c = λ asked e.
    called c.args.word c.args.held.now c.args.told.now asked e c.requires c.in-Some.answer c.in-Some-2.call (rw c.row.ensures at c.in-Some.ensures) (sym c.in-Some-2.is ∙ c.in_ok-call.ensures asked e)
