-- The caller sees the history that the keeper knows.
use Rattle.std.proofs.Common.{rules, sym, ◌∙◌}
use Rattle.crossbeam_utils.specs.Seq.{cell_view}
use Rattle.monitor.proofs.InHands.{looks_lent, looked_looks}
use Rattle.monitor.proofs.steps.look_as.Goals as goal

pub load_as-requires : goal.load_as-requires
load_as-requires g c =
    (search rules, (search rules, (c.hand_over.ensures.cell.1 ∙ c.requires.cell.1 ∙ sym c.requires.cell.0, looks_lent _ _ _ _ _ c.requires.keeper c.requires.caller c.hand_over.ensures.to)))

pub returns-clause-looks : goal.returns-clause-looks
returns-clause-looks g c =
    looked_looks _ (cell_view c.args.keeper.now) _ _ _ _ _
    (record { is_caller = c.requires.caller; lent_is = c.hand_over.ensures.to; left_is = c.hand_over.ensures.from; after_is = c.hand_over-2.ensures.to })
    c.load_as.ensures.rule
