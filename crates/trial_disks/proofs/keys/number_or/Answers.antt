use Rattle.toml.specs.View.{view}
use Rattle.trial_disks.proofs.Numbers.{given_or}
use Rattle.trial_disks.proofs.keys.number_or.Goals as goal

pub returns : goal.returns
returns c = record { said = rw c.unwrap_or.ensures (given_or c.args.key.now c.args.other (view c.args.value.now) c.in_ok-number.number c.in_ok-number.ensures.given) }
