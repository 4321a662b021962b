use Rattle.std.proofs.Common.{rules, arith}
use Rattle.check_register_kinds.proofs.comparison.is_zero_constant.Goals as goal

pub returns-then-is_constant-clause-exists : goal.returns-then-is_constant-clause-exists
returns-then-is_constant-clause-exists c = λ constant known.
    let is = c.known.ensures.known 0 known in
    first_of (search (rules, is), grind (arith, is))
