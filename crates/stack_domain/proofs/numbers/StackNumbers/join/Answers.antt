use Rattle.std.proofs.Common.{sym, subst, ◌∙◌, arith, ap, take}
use Rattle.stack_domain.specs.Numbers.{AreStanding}
use Rattle.stack_domain.proofs.Standing.{put_back, standing_taken}
use Rattle.stack_domain.proofs.numbers.StackNumbers.join.Goals as goal

pub returns-clause-first : goal.returns-clause-first
returns-clause-first c = λ frames are.
    put_back frames c.join.new.slots _ _ (omega (arith, c.as_mut_slice.ensures.len, c.join.ensures.len))
    (c.join.ensures.first frames (subst (AreStanding frames) (sym (c.as_mut_slice.ensures.value ∙ (c.truncate.ensures.items ∙ ap (take c.len.result) c.self.view_is))) (standing_taken frames c.args.self.now c.len.result are)))

pub returns-clause-second : goal.returns-clause-second
returns-clause-second c = λ frames are.
    put_back frames c.join.new.slots _ _ (omega (arith, c.as_mut_slice.ensures.len, c.join.ensures.len))
    (c.join.ensures.second frames (subst (AreStanding frames) (sym (c.as_slice.ensures.value ∙ c.other.view_is)) are))
