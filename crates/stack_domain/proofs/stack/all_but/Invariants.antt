use Rattle.stack_domain.proofs.Others.{AreOthers}
use Rattle.stack_domain.proofs.stack.all_but.Given as goal

-- all below this word are there, but for those that are left out
abbrev pub invariant-loop-other : goal.invariant-loop-other
invariant-loop-other l = AreOthers l.others l.word l.other
