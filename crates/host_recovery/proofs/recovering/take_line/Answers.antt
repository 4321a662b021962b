use Rattle.std.proofs.Common.{◌+◌, ◌∙◌, ap}
use Rattle.std.proofs.lemmas.Result.{err_from_is_err_and}
use Rattle.host_recovery.specs.Reads.{ReadingState}
use Rattle.host_recovery.specs.declared.reading.Took.TheVariants as took
use Rattle.host_recovery.proofs.Reached.{some_text, tells_broken, took_it}
use Rattle.host_recovery.proofs.Standing.{breaks_at_line, took_end, took_record}
use Rattle.host_recovery.proofs.recovering.take_line.Goals as goal

pub returns-in_err-take-clause-says : goal.returns-in_err-take-clause-says
returns-in_err-take-clause-says g c =
    let p = err_from_is_err_and c.from_residual.result c.from_residual.ensures.1 in
    rw (p.1, p.2) (λ config from stands. some_text from)

pub returns-in-Record-clause-says : goal.returns-in-Record-clause-says
returns-in-Record-clause-says g c = λ config from stands.
    let its = took_it c.args.reading.now c.take.new.self c.line.result.now c.args.lines.now.line c.in_ok-take.field-0 took.Record c.in-Record.is c.line.ensures.bytes c.in_ok-take.ensures in
    took_record config from (g.S.Source.remaining c.args.source.now) c.args.lines.now.line c.args.lines.now.ahead c.args.reading.now c.take.new.self stands its

pub returns-in-End-clause-says : goal.returns-in-End-clause-says
returns-in-End-clause-says g c = λ config from stands.
    let its = took_it c.args.reading.now c.take.new.self c.line.result.now c.args.lines.now.line c.in_ok-take.field-0 took.End c.in-End.is c.line.ensures.bytes c.in_ok-take.ensures in
    c.read_end.ensures.says config from its.totals (took_end config from (g.S.Source.remaining c.args.source.now) c.args.lines.now.line c.args.lines.now.ahead c.args.reading.now c.take.new.self stands its)

pub returns-in-Nothing-clause-says : goal.returns-in-Nothing-clause-says
returns-in-Nothing-clause-says g c = λ config from stands.
    let its = took_it c.args.reading.now c.take.new.self c.line.result.now c.args.lines.now.line c.in_ok-take.field-0 took.Nothing c.in-Nothing.is c.line.ensures.bytes c.in_ok-take.ensures in
    tells_broken config from c.line_count.result (c.args.reading.now.carried + c.args.reading.now.count) c.broken.result (c.line_count.ensures.count ∙ ap (λ (r : ReadingState). r.carried + r.count) its.same) c.broken.ensures
    (breaks_at_line config from (g.S.Source.remaining c.args.source.now) c.args.reading.now c.args.lines.now.line c.args.lines.now.ahead stands c.requires.line c.requires.other its.no_record its.no_end)
