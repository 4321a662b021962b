use Rattle.std.proofs.Common.{rules, sym, ◌∙◌}
use Rattle.toml.specs.View.{view}
use Rattle.trial_disks.specs.Said.{IsNumber}
use Rattle.trial_disks.proofs.Numbers.{nothing, other_for, there_or}
use Rattle.trial_disks.proofs.keys.short_number_or.Goals as goal

pub returns-then-not-has : goal.returns-then-not-has
returns-then-not-has c = record { said = other_for c.args.key.now c.args.other (view c.args.value.now) (nothing _ (sym c.has.ensures ∙ c.if-not-has.true)) }

pub returns-in-Ok : goal.returns-in-Ok
returns-in-Ok c =
    let is : IsNumber c.args.key.now (view c.args.value.now) c.in-Ok.number = search rules in
    record { said = there_or c.args.key.now c.args.other (view c.args.value.now) c.in-Ok.number is }
