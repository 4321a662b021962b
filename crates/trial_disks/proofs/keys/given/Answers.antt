use Rattle.std.proofs.Common.{sym, ◌∙◌}
use Rattle.trial_disks.proofs.Numbers.{nothing}
use Rattle.trial_disks.proofs.keys.given.Goals as goal

pub returns-then-not-has-clause-given : goal.returns-then-not-has-clause-given
returns-then-not-has-clause-given c = nothing _ (sym c.has.ensures ∙ c.if-not-has.true)
