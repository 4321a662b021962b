use Rattle.check_private_insns.proofs.Storing.{puts_number}
use Rattle.check_private_insns.proofs.memory.store_in.Goals as goal

pub returns-in-Number-clause-puts : goal.returns-in-Number-clause-puts
returns-in-Number-clause-puts c = puts_number c.args.description.now c.store_number_in.new.self c.args.frame c.args.bytes c.args.offsets c.in-Number.number c.args.word c.in-Number.is c.store_number_in.ensures.stores

pub returns-in-Number-clause-leaves : goal.returns-in-Number-clause-leaves
returns-in-Number-clause-leaves c = λ from number is live. c.store_number_in.ensures.leaves from is
