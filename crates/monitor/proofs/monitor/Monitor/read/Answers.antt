-- The words are the sums of the history that the watch then has seen.
use Rattle.std.proofs.Common.{rules, sym, ◌∙◌}
use Rattle.monitor.proofs.Watching.{reads, has_read}
use Rattle.monitor.proofs.monitor.Monitor.read.Goals as goal

pub load_as-words-requires : goal.load_as-words-requires
load_as-words-requires g c =
    let me = c.watch.invariant in
    (search rules, (search rules, (me.0 ∙ sym c.args.self.now.named, reads _ _ me.1.shown me.1.closed)))

pub returns : goal.returns
returns g c = has_read _ _ _ _ _ c.watch.view_is c.watch.invariant.1.setup_is c.load_as-words.ensures.rule
