use Rattle.std.proofs.Common.{List, map, ap, ◌∙◌}
use Rattle.toml.specs.declared.value.Value.{Value}
use Rattle.toml.specs.View.{view}
use Rattle.trial_disks.proofs.Numbers.{elements_are}
use Rattle.trial_disks.proofs.keys.tables.Goals as goal

pub returns-in-Some : goal.returns-in-Some
returns-in-Some c =
    ap (λ (those : List Value). map view those) c.as_slice.ensures.value
    ∙ elements_are c.args.key.now (view c.args.value.now) c.in-Some.array.now.items c.in-Some.ensures
