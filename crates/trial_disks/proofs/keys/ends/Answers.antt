use Rattle.std.proofs.Common.{rules, inl, map, refl, sym, w64, ◌∙◌}
use Rattle.std.proofs.lemmas.Int.{to_z-of_z}
use Rattle.toml.specs.View.{view}
use Rattle.trial_disks.proofs.Numbers.{two_ends}
use Rattle.trial_disks.proofs.keys.ends.Goals as goal

pub returns-in-Some : goal.returns-in-Some
returns-in-Some c = inl (rw (to_z-of_z w64 c.in-Some.number (search rules)) (sym c.integer.ensures ∙ c.in-Some.is), refl)

pub returns-in-None : goal.returns-in-None
returns-in-None c = two_ends c.args.key.now (view c.args.value.now) (map view c.elements.result.now) c.both.result c.elements.ensures c.both.ensures
