use Rattle.host_live.proofs.Growing.{all_both}
use Rattle.host_live.proofs.printed.Printed.settle.Goals as goal

pub returns-clause-printed : goal.returns-clause-printed
returns-clause-printed g c = all_both _ _ _ _ _ _ _ _ _ _ _ c.hand_on.ensures.printed c.tell_settled.ensures.printed
