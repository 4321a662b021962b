use Rattle.std.proofs.Common.{arith}
use Rattle.explain_path.proofs.Paths.{no_other}
use Rattle.explain_path.proofs.static_path.begins_with.Goals as goal

pub returns-else-first-eq0-clause-no : goal.returns-else-first-eq0-clause-no
returns-else-first-eq0-clause-no c = λ e path. no_other c.args.program.now c.args.first c.args.rest.now (λ same. omega (arith, c.if-first-eq0.false, same)) path
