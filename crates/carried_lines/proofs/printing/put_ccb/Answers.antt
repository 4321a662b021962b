use Rattle.std.proofs.Common.{sym, ◌∙◌}
use Rattle.carried_lines.proofs.CcbLine.{classed_put, plain_put}
use Rattle.carried_lines.proofs.printing.put_ccb.Goals as goal

pub returns-then-has_classes-clause-text : goal.returns-then-has_classes-clause-text
returns-then-has_classes-clause-text c = classed_put c.args.version c.args.ccb.now c.args.text.now c.put_classed.new.text (sym c.has_classes.ensures ∙ c.if-has_classes.true) c.put_classed.ensures.text

pub returns-else-has_classes-clause-text : goal.returns-else-has_classes-clause-text
returns-else-has_classes-clause-text c =
    plain_put c.args.version c.args.ccb.now c.args.text.now c.put_plain.new.text c.requires.spelled (sym c.has_classes.ensures ∙ c.if-has_classes.false) c.put_plain.ensures.text
