-- The caller's record joins the history that the keeper knows.
use Rattle.std.proofs.Common.{rules, sym, ◌∙◌}
use Rattle.crossbeam_utils.specs.Seq.{cell_view}
use Rattle.monitor.proofs.InHands.{publishes_lent, published_joins}
use Rattle.monitor.proofs.steps.publish_as.Goals as goal

pub swap_as-requires : goal.swap_as-requires
swap_as-requires g c = (
  search rules,
  (
    search rules,
    (
      c.hand_over.ensures.cell.1 ∙ c.requires.cell.1 ∙ sym c.requires.cell.0,
      publishes_lent _ _ _ _ g.S.Told.told c.args.totals _ _ c.requires.keeper c.requires.caller c.hand_over.ensures.to c.words_of-words.ensures c.requires.totals,
    ),
  ),
)

pub returns-clause-joins : goal.returns-clause-joins
returns-clause-joins g c =
    published_joins _ (cell_view c.args.keeper.now) _ _ _ _ _
    (record { is_caller = c.requires.caller; lent_is = c.hand_over.ensures.to; left_is = c.hand_over.ensures.from; after_is = c.hand_over-2.ensures.to })
    g.S.Told.told c.swap_as.ensures.rule
