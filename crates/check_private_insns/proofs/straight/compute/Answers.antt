use Rattle.check_private_insns.proofs.GoingOn.{alu_goes}
use Rattle.check_private_insns.proofs.straight.compute.Goals as goal

pub returns-clause-goes : goal.returns-clause-goes
returns-clause-goes c = alu_goes c.args.description.now c.set.new.description c.args.width c.args.op c.args.dst c.args.src _ _ _ c.kind.ensures c.operand.ensures.holds c.in_ok-kind.ensures.means c.set.ensures.set c.set.ensures.replaces
