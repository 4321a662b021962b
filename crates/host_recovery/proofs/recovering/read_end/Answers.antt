use Rattle.std.proofs.Common.{◌≡◌, ◌==◌, ℕ, false, true, List, ◌∷◌, ◌++◌, length, ap, sym, ◌∙◌}
use Rattle.host_recovery.proofs.Reached.{broken_behind_end, long_is_some, not_nothing, some_text}
use Rattle.host_recovery.proofs.recovering.read_end.Goals as goal

pub returns-in-Line-clause-says : goal.returns-in-Line-clause-says
returns-in-Line-clause-says g c = λ config from totals stands.
    let its = c.in-Line.ensures in
    broken_behind_end config from (g.S.Source.remaining c.args.source.now) (g.S.Source.remaining c.next.new.source) totals c.args.reading.now c.args.lines.now.ahead its.0
    (c.next.new.self.line ++ 10 ∷ c.next.new.self.ahead) c.line_count.result c.broken.result stands its.1 its.2 (not_nothing c.next.new.self.line 10 c.next.new.self.ahead) c.line_count.ensures.count c.broken.ensures

pub returns-else-is_empty-clause-says : goal.returns-else-is_empty-clause-says
returns-else-is_empty-clause-says g c = λ config from totals stands.
    let its = c.in-Torn.ensures in
    broken_behind_end config from (g.S.Source.remaining c.args.source.now) (g.S.Source.remaining c.next.new.source) totals c.args.reading.now c.args.lines.now.ahead its.0
    c.next.new.self.line c.line_count-else-is_empty.result c.broken-else-is_empty.result stands its.1 its.3
    (λ e. let bad : false ≡ true = sym c.if-is_empty.false ∙ (c.is_empty.ensures ∙ ap (λ (t : List ℕ). length t == 0) (c.line.ensures.bytes ∙ e)) in cc)
    c.line_count-else-is_empty.ensures.count c.broken-else-is_empty.ensures

pub returns-in-Long-clause-says : goal.returns-in-Long-clause-says
returns-in-Long-clause-says g c = λ config from totals stands.
    let its = c.in-Long.ensures in
    broken_behind_end config from (g.S.Source.remaining c.args.source.now) (g.S.Source.remaining c.next.new.source) totals c.args.reading.now c.args.lines.now.ahead its.0
    (its.2 ++ its.3) c.line_count-in-Long.result c.broken-in-Long.result stands its.1 its.4 (long_is_some its.2 its.3 its.6) c.line_count-in-Long.ensures.count c.broken-in-Long.ensures

pub returns-in-Failed-clause-says : goal.returns-in-Failed-clause-says
returns-in-Failed-clause-says g c = λ config from totals stands. some_text from
