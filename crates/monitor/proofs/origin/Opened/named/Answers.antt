-- The only seat becomes the keeper's.
use Rattle.std.proofs.Common.{rules, ap}
use Rattle.monitor.specs.declared.knowledge.View.{View}
use Rattle.monitor.proofs.Making.{opens}
use Rattle.monitor.proofs.origin.Opened.named.Goals as goal

pub split_pass-requires : goal.split_pass-requires
split_pass-requires g c = (search rules, (search rules, (c.self.invariant.0, opens _ _ c.requires.legal _ _ (ap (λ (v : View). v.opens) c.self.invariant.1))))
