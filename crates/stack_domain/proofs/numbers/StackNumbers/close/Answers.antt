use Rattle.std.proofs.Common.{sym, subst, ◌∙◌, arith, take}
use Rattle.stack_domain.specs.Numbers.{AreStanding}
use Rattle.stack_domain.proofs.Standing.{put_back}
use Rattle.stack_domain.proofs.numbers.StackNumbers.close.Goals as goal

pub returns-clause-closed : goal.returns-clause-closed
returns-clause-closed c = λ frames are.
    put_back (take c.args.live frames) c.close.new.slots _ _ (omega (arith, c.as_mut_slice.ensures.len, c.close.ensures.len))
    (c.close.ensures.closed frames (subst (AreStanding frames) (sym (c.as_mut_slice.ensures.value ∙ c.self.view_is)) are))
