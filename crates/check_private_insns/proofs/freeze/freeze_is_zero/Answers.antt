use Rattle.std.proofs.Common.{◌≡◌, false, true, refl, sym, ◌∙◌}
use Rattle.check_register_kinds.specs.declared.kind.Kind.TheVariants.{Number}
use Rattle.check_private_insns.proofs.Tested.{zero_described}
use Rattle.check_private_insns.proofs.freeze.freeze_is_zero.Goals as goal

pub returns-clause-kept : goal.returns-clause-kept
returns-clause-kept c = λ numbers callers m is its. (refl, zero_described numbers callers c.args.description.now c.give_up.new.self m c.args.name is (c.give_up.ensures.kept numbers callers 0 m is its c.exactly.ensures.has))

pub returns-clause-leaves : goal.returns-clause-leaves
returns-clause-leaves c = λ goes. (
  λ sure. let bad : false ≡ true = sym c.if-eq.false ∙ (rw (c.certainty.ensures, sure) at c.eq.ensures) in absurd cc,
  Number c.exactly.result,
  c.exactly.ensures.is_known,
  c.give_up.ensures.leaves,
)
