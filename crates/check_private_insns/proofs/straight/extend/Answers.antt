use Rattle.check_private_insns.proofs.GoingOn.{extend_goes}
use Rattle.check_private_insns.proofs.straight.extend.Goals as goal

pub returns-clause-goes : goal.returns-clause-goes
returns-clause-goes c = extend_goes c.args.description.now c.set.new.description c.args.extension c.args.dst c.args.src _ (λ numbers. rw c.kind.ensures at (c.in_ok-kind.ensures.means numbers)) c.set.ensures.set c.set.ensures.replaces
