use Rattle.std.proofs.Common.{◌≡◌, true, false, subst}
use Rattle.engine_beginning.specs.Begun.{BegunState}
use Rattle.engine_beginning.specs.Lines.{Takes}
use Rattle.engine_succession.specs.Taking.{StopsFor}
use Rattle.engine_succession.proofs.Taking.{stops_for, too_few}
use Rattle.engine_succession.proofs.beginning.entered.Goals as goal

pub returns-in-None-clause-refused : goal.returns-in-None-clause-refused
returns-in-None-clause-refused c =
    too_few c.args.config.now c.args.lines.now c.take_all.new.beginning c.opened.ensures.lawful
    (subst (λ (b : BegunState). Takes b c.args.lines.now c.take_all.new.beginning) c.new-beginning.ensures c.in-Ok-take_all.ensures.taken.takes)
    (λ complete. let bad : false ≡ true = c.in-None.ensures.complete.1 complete in cc)

pub returns-in-Err-clause-refused : goal.returns-in-Err-clause-refused
returns-in-Err-clause-refused c =
    stops_for c.args.config.now c.args.lines.now c.in-Err.fault c.opened.ensures.lawful
    (subst (λ (b : BegunState). StopsFor b c.args.lines.now c.in-Err.fault) c.new-beginning.ensures c.in-Err.ensures.stopped)
