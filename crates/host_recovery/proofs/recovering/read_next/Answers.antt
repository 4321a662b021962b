use Rattle.std.proofs.Common.{◌≡◌, ◌+◌, ◌++◌, None, ap, refl, sym, ◌∙◌}
use Rattle.std.specs.List.{list_all}
use Rattle.trace.specs.ShortLines.{IsShort, is_shown}
use Rattle.host_recovery.proofs.Reached.{some_text, tells_broken}
use Rattle.host_recovery.proofs.Standing.{breaks_when_long, breaks_when_torn, done_torn, given_more}
use Rattle.host_recovery.proofs.recovering.read_next.Goals as goal

pub returns-then-is_torn-clause-says : goal.returns-then-is_torn-clause-says
returns-then-is_torn-clause-says g c = λ config from stands.
    let its = c.in-Torn.ensures in
    let more = given_more config from (g.S.Source.remaining c.args.source.now) None c.args.lines.now.ahead c.args.reading.now stands (g.S.Source.remaining c.next.new.source) its.0 c.next.new.self.line its.1 its.3 in
    let tested : list_all is_shown c.next.new.self.line ≡ c.is_torn.result = ap (list_all is_shown) (sym c.line.ensures.bytes) ∙ sym c.is_torn.ensures in
    let short : IsShort c.next.new.self.line = record { few = c.line.ensures.few; shown = tested ∙ c.if-is_torn.true } in
    done_torn config from (g.S.Source.remaining c.next.new.source) c.args.reading.now c.next.new.self.line more its.2 short

pub returns-else-is_torn-clause-says : goal.returns-else-is_torn-clause-says
returns-else-is_torn-clause-says g c = λ config from stands.
    let its = c.in-Torn.ensures in
    let more = given_more config from (g.S.Source.remaining c.args.source.now) None c.args.lines.now.ahead c.args.reading.now stands (g.S.Source.remaining c.next.new.source) its.0 c.next.new.self.line its.1 its.3 in
    let tested : list_all is_shown c.next.new.self.line ≡ c.is_torn.result = ap (list_all is_shown) (sym c.line.ensures.bytes) ∙ sym c.is_torn.ensures in
    tells_broken config from c.line_count.result (c.args.reading.now.carried + c.args.reading.now.count) c.broken.result c.line_count.ensures.count c.broken.ensures
    (breaks_when_torn config from (g.S.Source.remaining c.next.new.source) c.args.reading.now c.next.new.self.line more its.2 its.4 (tested ∙ c.if-is_torn.false))

pub returns-in-Long-clause-says : goal.returns-in-Long-clause-says
returns-in-Long-clause-says g c = λ config from stands.
    let its = c.in-Long.ensures in
    let more = given_more config from (g.S.Source.remaining c.args.source.now) None c.args.lines.now.ahead c.args.reading.now stands (g.S.Source.remaining c.next.new.source) its.0 (its.2 ++ its.3) its.1 its.4 in
    tells_broken config from c.line_count-in-Long.result (c.args.reading.now.carried + c.args.reading.now.count) c.broken-in-Long.result c.line_count-in-Long.ensures.count c.broken-in-Long.ensures
    (breaks_when_long config from (g.S.Source.remaining c.next.new.source) c.args.reading.now (its.2 ++ its.3) its.2 its.3 more refl its.5 its.6)

pub returns-in-Failed-clause-says : goal.returns-in-Failed-clause-says
returns-in-Failed-clause-says g c = λ config from stands. some_text from
