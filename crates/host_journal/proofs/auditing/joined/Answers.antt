use Rattle.std.proofs.Common.{Bool, subst}
use Rattle.host_journal.specs.Linked.{Judges}
use Rattle.host_journal.proofs.Sound.{not_joined}
use Rattle.host_journal.proofs.auditing.joined.Goals as goal

pub returns-in-Ok-false-clause-refused : goal.returns-in-Ok-false-clause-refused
returns-in-Ok-false-clause-refused g c = λ before config last left segment ended.
    not_joined (g.D.Disk.held c.args.disk.now) c.args.number last before config c.args.its c.args.left.now c.in-Some.left (g.D.Disk.steps c.args.disk.now) (g.D.Disk.steps c.begins_with.new.disk) c.in-Some.is left segment ended
    (subst (λ (b : Bool). Judges ((g.D.Disk.held c.args.disk.now).segments c.args.number) c.args.its.carried c.in-Some.left b) c.in-Ok-false.field-0-test c.in-Ok-false.ensures.judged)
