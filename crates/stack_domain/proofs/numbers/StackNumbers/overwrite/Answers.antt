use Rattle.std.proofs.Common.{sym, subst, ◌∙◌, arith}
use Rattle.stack_domain.specs.Numbers.{AreStanding}
use Rattle.stack_domain.proofs.Standing.{put_back}
use Rattle.stack_domain.proofs.numbers.StackNumbers.overwrite.Goals as goal

pub returns-clause-fewer : goal.returns-clause-fewer
returns-clause-fewer c = λ frames are.
    put_back frames c.overwrite.new.slots _ _ (omega (arith, c.as_mut_slice.ensures.len, c.overwrite.ensures.len))
    (c.overwrite.ensures.fewer frames (subst (AreStanding frames) (sym (c.as_mut_slice.ensures.value ∙ c.self.view_is)) are))
