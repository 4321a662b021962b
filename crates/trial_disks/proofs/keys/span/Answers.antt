use Rattle.std.proofs.Common.{rules, sym, ◌∙◌}
use Rattle.toml.specs.View.{view}
use Rattle.trial_disks.proofs.Numbers.{nothing, ends_of}
use Rattle.trial_disks.proofs.keys.span.Goals as goal

pub returns-then-not-has : goal.returns-then-not-has
returns-then-not-has c = record { said = nothing _ (sym c.has.ensures ∙ c.if-not-has.true) }

pub returns-then-least-most : goal.returns-then-least-most
returns-then-least-most c =
    record { said = ends_of c.args.key.now (view c.args.value.now) c.in-Some.ends.0 c.in-Some.ends.1 c.in_ok-least.least c.in_ok-most.most (search rules) (search rules) c.in-Some.ensures }
