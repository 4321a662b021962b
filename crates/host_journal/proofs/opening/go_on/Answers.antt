use Rattle.host_journal.proofs.Causes.{cuts_next, opens_next}
use Rattle.host_journal.proofs.opening.go_on.Goals as goal

pub returns-in-Ok-clause-opens : goal.returns-in-Ok-clause-opens
returns-in-Ok-clause-opens g c =
    opens_next c.args.begun.now.config c.args.begun.now.number ((g.D.Disk.held c.args.disk.now).segments c.args.begun.now.number) (g.D.Disk.steps c.args.disk.now) (g.D.Disk.steps c.replayed.new.disk) (g.D.Disk.steps c.cut.new.disk) c.in-Ok.recovered c.cut.result
    c.in-Ok.ensures.steps c.in-Ok.ensures.replays c.cut.ensures.steps

pub returns-in-Ok-clause-steps : goal.returns-in-Ok-clause-steps
returns-in-Ok-clause-steps g c =
    cuts_next c.args.begun.now.number (g.D.Disk.steps c.args.disk.now) (g.D.Disk.steps c.replayed.new.disk) (g.D.Disk.steps c.cut.new.disk) c.in-Ok.recovered c.cut.result c.in-Ok.ensures.steps c.cut.ensures.steps
