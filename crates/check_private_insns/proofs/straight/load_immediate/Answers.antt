use Rattle.check_private_insns.proofs.GoingOn.{constant_goes}
use Rattle.check_private_insns.proofs.straight.load_immediate.Goals as goal

pub returns-clause-goes : goal.returns-clause-goes
returns-clause-goes c = constant_goes c.args.description.now c.set.new.description c.args.dst c.args.value (λ numbers. rw c.set.ensures.set (c.exactly.ensures.has numbers)) c.set.ensures.replaces
