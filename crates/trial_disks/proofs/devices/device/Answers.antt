use Rattle.std.proofs.Common.{sym, ◌∙◌}
use Rattle.toml.specs.View.{view}
use Rattle.trial_disks.proofs.Numbers.{nothing}
use Rattle.trial_disks.proofs.Parts.{without_failures}
use Rattle.trial_disks.proofs.devices.device.Goals as goal

pub returns-then-not-has : goal.returns-then-not-has
returns-then-not-has c =
    record { said = without_failures (view c.args.value.now) c.in-Ok.device (nothing _ (sym c.has.ensures ∙ c.if-not-has.true)) c.in-Ok.ensures.none c.in-Ok.ensures.said }
