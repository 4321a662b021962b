use Rattle.std.proofs.Common.{rules}
use Rattle.host_live.proofs.Growing.{as_none, as_these}
use Rattle.host_live.proofs.Finishing.{drove_first, none_first}
use Rattle.host_live.proofs.ending.drive_first.Goals as goal

pub returns-then-manner-clause-grown : goal.returns-then-manner-clause-grown
returns-then-manner-clause-grown g c = as_none _ _ _ (none_first c.args.manner c.args.host.now.engine.engine (search (rules, c.if-manner.true)))

pub returns-else-manner-clause-grown : goal.returns-else-manner-clause-grown
returns-else-manner-clause-grown g c = as_these _ _ _ _ _ _ (λ records driven. drove_first c.args.manner c.drive_all.result c.drive_all.new.host.engine.engine records (search (rules, c.if-manner.false)) driven) c.drive_all.ensures.grown
