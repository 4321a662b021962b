use Rattle.std.proofs.Common.{Option, ap, ◌∙◌}
use Rattle.freeze_ledger.specs.declared.freeze.Freeze.{Freeze}
use Rattle.engine_carried.specs.FreezeAbove.{lesser}
use Rattle.engine_carried.proofs.Above.{above_is}
use Rattle.engine_carried.proofs.freezes.freeze_above.Goals as goal

pub returns : goal.returns
returns c =
    c.lesser.ensures
    ∙ (ap (λ (one : Option Freeze). lesser one c.controllers_above.result) c.queues_above.ensures
    ∙ (ap (lesser _) c.controllers_above.ensures
    ∙ above_is c.args.config.now c.args.after c.args.transport.now.freezes c.args.transport.now.greatest_freeze c.requires.numbered c.requires.places))
