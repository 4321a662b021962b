-- What a caller tells is a beginning of the history.
use Rattle.std.proofs.Common.{rules, sym, ◌∙◌}
use Rattle.monitor.proofs.Watching.{tells}
use Rattle.monitor.proofs.caller_part.CallerPart.receipt.Goals as goal

pub split_pass-requires : goal.split_pass-requires
split_pass-requires g c = (search rules, (search rules, (c.self.invariant.0 ∙ sym c.args.monitor.now.named, tells _ _ c.self.invariant.1.closed)))
