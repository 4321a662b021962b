-- The sums are those of the history that the keeper knows, and then a watch may read them.
use Rattle.std.proofs.Common.{rules, sym, ap, ◌∙◌}
use Rattle.monitor.proofs.Publishing.{shows_again}
use Rattle.monitor.proofs.Watching.{lets_watch}
use Rattle.monitor.proofs.keeper.Keeper.watch.Goals as goal

pub swap_as-requires : goal.swap_as-requires
swap_as-requires g c =
    let me = c.self.invariant in
    (search rules, (search rules, (me.0 ∙ sym c.args.monitor.now.named, shows_again _ _ _ _ c.args.totals _ me.1 (ap (λ k. k.history) c.self.view_is) c.words_of-words.ensures c.requires.totals)))

pub split_pass-requires : goal.split_pass-requires
split_pass-requires g c =
    let me = c.self.invariant in
    (search rules, (search rules, (c.swap_as.ensures.cell.0 ∙ me.0 ∙ sym c.args.monitor.now.named, lets_watch _ _ _ _ me.1 c.swap_as.ensures.rule)))
