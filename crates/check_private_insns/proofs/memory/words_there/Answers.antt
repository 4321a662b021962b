use Rattle.check_private_insns.proofs.Loading.{number_given}
use Rattle.check_private_insns.proofs.memory.words_there.Goals as goal

pub returns-in-Some : goal.returns-in-Some
returns-in-Some c =
    number_given c.args.description.now c.args.form c.args.frame c.args.bytes c.args.offsets c.in-Some.number c.requires.all (c.is_unsigned.ensures c.if-is_unsigned.true) c.in-Some.ensures
