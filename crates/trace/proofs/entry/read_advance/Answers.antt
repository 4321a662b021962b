use Rattle.std.proofs.Common.{sym, ◌∙◌}
use Rattle.trace.proofs.Answered.{advanced}
use Rattle.trace.proofs.entry.read_advance.Goals as goal

pub returns : goal.returns
returns c = λ asked e.
    rw (c.number_at.ensures, c.number_at-2.ensures)
    (advanced c.args.held.now c.args.told.now asked e c.in-Some.r0 c.in-Some-stop_in.stop c.in_ok-stop.stop c.in-Some.ensures (sym c.stop_in.ensures ∙ c.in-Some-stop_in.is) c.in_ok-stop.ensures)
