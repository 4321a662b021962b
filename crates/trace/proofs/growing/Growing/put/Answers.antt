use Rattle.std.proofs.Common.{◌≡◌, List, ℕ, rules, subst}
use Rattle.trace_lines.specs.Written.{IsPut}
use Rattle.trace.specs.TraceText.{record_text}
use Rattle.trace.proofs.Spelled.{has_line, put_so}
use Rattle.trace.proofs.growing.Growing.put.Goals as goal

pub print_record-requires-clause-spelled : goal.print_record-requires-clause-spelled
print_record-requires-clause-spelled c = (has_line c.args.self.now.version c.args.entry.now c.requires.spelled c.fits.ensures).0

pub returns-clause-text : goal.returns-clause-text
returns-clause-text c =
    let line = has_line c.args.self.now.version c.args.entry.now c.requires.spelled c.fits.ensures in
    let same : c.self.inside.page.text ≡ c.args.self.now.waiting = search rules in
    subst (λ (waiting : List ℕ). IsPut (record_text c.args.self.now.version c.args.entry.now) waiting c.print_record.new.text) same (put_so _ _ _ _ line.1 c.print_record.ensures.text)
