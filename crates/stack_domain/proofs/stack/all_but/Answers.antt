use Rattle.std.proofs.Common.{Bool, List, ◌+◌, ◌∙◌, subst, sym}
use Rattle.stack_domain.proofs.Others.{AreOthers, none_yet, left_out, put_in}
use Rattle.stack_domain.proofs.stack.all_but.Goals as goal
use Rattle.stack_domain.proofs.stack.all_but.Goals.{then-other-word, else-other-word}

pub loop-other-init : goal.loop-other-init
loop-other-init c = none_yet c.empty-others.result c.args.word c.empty-others.ensures

pub loop-other-preserved : goal.loop-other-preserved
loop-other-preserved c = elim c.if-other-word.branch [
  | then-other-word w ↦ put_in c.loop-other.others c.if-other-word.others c.args.word c.loop-other.other c.loop-other.invariant c.loop-other-test.true w.if-other-word.true (w.others-is ∙ w.insert_all.ensures)
  | else-other-word w ↦ subst (λ (s : List Bool). AreOthers s c.args.word (c.loop-other.other + 1)) (sym w.others-is) (left_out c.loop-other.others c.loop-other.others c.args.word c.loop-other.other c.loop-other.invariant c.loop-other-test.true w.if-other-word.false)
]
