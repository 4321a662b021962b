use Rattle.workers.proofs.Recording.{are_recorded}
use Rattle.workers.proofs.Turns.{all_back, passes_are}
use Rattle.workers.proofs.serving.serve.Goals as goal

pub returns-in-Ok-clause-recorded : goal.returns-in-Ok-clause-recorded
returns-in-Ok-clause-recorded g c none = are_recorded g.B.Origin.setup c.args.seats.items c.serve_in.result c.serve_in.ensures none

pub returns-in-Ok-clause-all : goal.returns-in-Ok-clause-all
returns-in-Ok-clause-all g c = all_back g.B.Origin.setup c.args.inbox.now c.args.seats.items c.serve_in.result c.serve_in.ensures

pub returns-in-Ok-clause-passes : goal.returns-in-Ok-clause-passes
returns-in-Ok-clause-passes g c = passes_are g.B.Origin.setup c.args.inbox.now c.args.seats.items c.serve_in.result c.serve_in.ensures c.requires.passes
