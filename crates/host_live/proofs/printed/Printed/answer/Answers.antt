use Rattle.host_live.proofs.Growing.{all_both}
use Rattle.host_live.proofs.printed.Printed.answer.Goals as goal

pub returns-in-Ok-clause-printed : goal.returns-in-Ok-clause-printed
returns-in-Ok-clause-printed g c = all_both _ _ _ _ _ _ _ _ _ _ _ c.hand_on.ensures.printed c.tell_answer.ensures.printed
