use Rattle.std.proofs.Common.{refl, false}
use Rattle.std.proofs.lemmas.List.{get_or-replicate}
use Rattle.call_shape.proofs.functions.called_slots.Goals as goal

pub loop-place-init : goal.loop-place-init
loop-place-init c = (refl, λ slot lt. get_or-replicate 4096 slot false false lt)
