use Rattle.std.proofs.Common.{Option, subst, sym, []}
use Rattle.std.specs.Prelude.{is_some, if◌then◌else◌}
use Rattle.whole_trace.specs.Continued.{items_of}
use Rattle.host_live.specs.LinesCome.{EndsALine}
use Rattle.host_journal.specs.Made.{made_of}
use Rattle.host_journal.proofs.Started.{front_ends}
use Rattle.host_journal.proofs.serving.first_waiting.Goals as goal

pub returns-in-Some-clause-line : goal.returns-in-Some-clause-line
returns-in-Some-clause-line c =
    subst (λ (given : Option _). EndsALine (if is_some given then made_of c.args.begun.now else [])) (sym c.in-Some.is) (front_ends c.args.begun.now.config (items_of c.args.begun.now.carried))
