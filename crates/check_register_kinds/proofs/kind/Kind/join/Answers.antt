use Rattle.std.proofs.Common.{subst}
use Rattle.check_register_kinds.specs.Kinds.{IsAtMost}
use Rattle.check_register_kinds.proofs.kind.Kind.join.Goals as goal

pub returns-in-Number-clause-bounds : goal.returns-in-Number-clause-bounds
returns-in-Number-clause-bounds c = λ most first second. c.join_number.ensures.bounds most (subst (IsAtMost most) c.in-Number.is first) second
