use Rattle.std.proofs.Common.{subst, ◌∙◌}
use Rattle.std.specs.Prelude.{IfOk}
use Rattle.check_description.specs.declared.description.Description.{Description}
use Rattle.verifier.specs.Table.{HasLeft}
use Rattle.verifier.proofs.Joined.{left_so}
use Rattle.verifier.proofs.Led.{if_both_ok}
use Rattle.verifier.proofs.table.leave.Goals as goal

pub returns-clause-left : goal.returns-clause-left
returns-clause-left c =
    subst (λ (known : Description). IfOk c.merge.result (λ _. HasLeft c.args.saved.now known c.args.left.now c.merge.new.known)) (c.deref_mut.ensures.value ∙ c.known.view_is)
    (if_both_ok c.merge.result
    (left_so c.args.saved.now c.deref_mut.result.now c.leave.new.description c.args.left.now c.merge.new.known c.leave.ensures.leaves c.leave.ensures.depth)
    c.merge.ensures.some c.merge.ensures.merged)
