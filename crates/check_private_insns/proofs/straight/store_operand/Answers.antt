use Rattle.std.specs.Int.{w16}
use Rattle.std.proofs.lemmas.Int.{to_z-of_z}
use Rattle.check_private_insns.proofs.GoingOn.{store_goes}
use Rattle.check_private_insns.proofs.straight.store_operand.Goals as goal

pub returns-clause-goes : goal.returns-clause-goes
returns-clause-goes c = store_goes c.store.result c.args.description.now c.store.new.description c.args.size c.args.dst c.args.src c.args.offset c.operand-word.result c.operand-word.ensures.holds (rw (to_z-of_z w16 c.args.offset c.ranges.offset) at c.store.ensures.stores)
