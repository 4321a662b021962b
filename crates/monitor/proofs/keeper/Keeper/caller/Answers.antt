-- The next caller's part is like no other.
use Rattle.std.proofs.Common.{rules, sym, ◌∙◌}
use Rattle.monitor.proofs.Making.{gives_out}
use Rattle.monitor.proofs.keeper.Keeper.caller.Goals as goal

pub split_pass-requires : goal.split_pass-requires
split_pass-requires g c = (search rules, (search rules, (c.self.invariant.0 ∙ sym c.args.monitor.now.named, gives_out _ _ c.self.invariant.1.keeps c.self.invariant.1.closed)))
