use Rattle.check_private_insns.proofs.GoingOn.{change_goes}
use Rattle.check_private_insns.proofs.straight.change.Goals as goal

pub returns-clause-goes : goal.returns-clause-goes
returns-clause-goes c = change_goes c.args.description.now c.set.new.description c.args.op c.args.dst _ (λ numbers. rw c.kind.ensures at (c.in_ok-kind.ensures.means numbers)) c.set.ensures.set c.set.ensures.replaces
