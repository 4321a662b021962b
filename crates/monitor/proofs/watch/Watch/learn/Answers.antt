-- What is learned is a beginning of the history.
use Rattle.std.proofs.Common.{rules, sym, ◌∙◌}
use Rattle.monitor.proofs.Watching.{hears}
use Rattle.monitor.proofs.watch.Watch.learn.Goals as goal

pub join_pass-requires : goal.join_pass-requires
join_pass-requires g c =
    let me = c.self.invariant in
    (search rules, (search rules, ((me.0 ∙ sym c.args.monitor.now.named, c.receipt.invariant.0 ∙ sym me.0, c.receipt.invariant.1), hears _ _ _ _ me.1.closed)))
