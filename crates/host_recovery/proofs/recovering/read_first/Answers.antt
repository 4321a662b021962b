use Rattle.host_recovery.proofs.Reached.{first_long, first_other, some_text}
use Rattle.host_recovery.proofs.recovering.read_first.Goals as goal

pub returns-in-None-clause-says : goal.returns-in-None-clause-says
returns-in-None-clause-says g c = λ setup.
    let its = c.in-Line.ensures in
    first_other (g.S.Source.remaining c.args.source.now) (g.S.Source.remaining c.next.new.source) c.args.lines.now.ahead its.0 c.requires its.1
    c.next.new.self.line c.next.new.self.ahead c.line.result.now its.2 its.3 c.line.ensures.bytes c.in-None.ensures

pub returns-in-Long-clause-says : goal.returns-in-Long-clause-says
returns-in-Long-clause-says g c = λ setup.
    let its = c.in-Long.ensures in
    first_long (g.S.Source.remaining c.args.source.now) (g.S.Source.remaining c.next.new.source) c.args.lines.now.ahead its.0 c.requires its.1 its.2 its.3 its.4 its.5 its.6

pub returns-in-Failed-clause-says : goal.returns-in-Failed-clause-says
returns-in-Failed-clause-says g c = λ setup. some_text (g.S.Source.remaining c.args.source.now)
