use Rattle.std.proofs.Common.{inl, inr, rules}
use Rattle.host_live.specs.declared.serving.LiveFault.{LiveFault}
use Rattle.host_live.proofs.Growing.{as_none, as_these}
use Rattle.host_live.proofs.Finishing.{drove_last, none_last}
use Rattle.host_live.proofs.ending.drive_last.Goals as goal

pub returns-then-manner-clause-grown : goal.returns-then-manner-clause-grown
returns-then-manner-clause-grown g c = as_none _ _ _ (none_last LiveFault _ c.args.manner c.args.is_followed c.args.host.now.engine.engine (inl (search (rules, c.if-manner.true))))

pub returns-then-is_followed-clause-grown : goal.returns-then-is_followed-clause-grown
returns-then-is_followed-clause-grown g c = as_none _ _ _ (none_last LiveFault _ c.args.manner c.args.is_followed c.args.host.now.engine.engine (inr (search (rules, c.if-is_followed.true))))

pub returns-clause-grown : goal.returns-clause-grown
returns-clause-grown g c = as_these _ _ _ _ _ _ (λ records driven. drove_last c.args.manner c.args.is_followed c.drive_all.result c.drive_all.new.host.engine.engine records (search (rules, c.if-manner.false)) (search (rules, c.if-is_followed.false)) driven) c.drive_all.ensures.grown
