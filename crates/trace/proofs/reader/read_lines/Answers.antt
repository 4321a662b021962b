use Rattle.std.proofs.Common.{◌≡◌, Some, List, [], ◌∷◌, ◌++◌, length, refl, sym, ap, ◌∙◌, subst, arith, rules, length-append}
use Rattle.world_calls.specs.declared.record.Record.{Record}
use Rattle.trace.proofs.Cuts.{first_line, no_first_line}
use Rattle.trace.proofs.SoFar.{IsReadSoFar, begin, one_more, goes_on_from, no_trace_on, only_trace, not_a_line, not_ended, faulty_from, no_trace, not_empty}
use Rattle.trace_lines.proofs.Tests.{parts_of}
use Rattle.trace.specs.TraceText.{records_text}
use Rattle.trace.proofs.Spelled.{have_texts}
use Rattle.trace.proofs.reader.read_lines.Goals as goal

pub loop-line-init : goal.loop-line-init
loop-line-init c = record {
  so_far = rw c.in_ok-records.ensures (begin c.args.version c.args.text.now);
  place = rw c.in_ok-records.ensures (omega arith);
  fits = omega arith;
  text = c.utf8.text;
}

pub loop-line-preserved : goal.loop-line-preserved
loop-line-preserved c =
    let first = first_line c.loop-line.rest.now c.in-Some.line c.in-Some.behind c.in-Some.ensures.cases in
    let one : c.push_reserved.new.self.items ≡ c.loop-line.records.items ++ c.in-Some-2.entry ∷ [] =
    c.push_reserved.ensures.items ∙ ap (λ (r : List Record). r ++ c.in-Some-2.entry ∷ []) c.in_ok-reserve.ensures.items in
    record {
      so_far = subst (λ (r : List Record). IsReadSoFar c.args.version c.args.text.now r c.in-Some.behind.now) (sym one)
          (one_more c.args.version c.args.text.now c.loop-line.records.items c.loop-line.rest.now c.loop-line.invariant.so_far c.in-Some.line.now c.in-Some.behind.now first c.in-Some-2.entry (rw c.in-Some-2.is at c.in_ok-entry.ensures));
      place = omega (arith, ap length one, length-append c.loop-line.records.items (c.in-Some-2.entry ∷ []), c.loop-line.invariant.place);
      fits = omega (arith, ap length first.whole, length-append c.in-Some.line.now (10 ∷ c.in-Some.behind.now), c.loop-line.invariant.fits);
      text = search rules;
    }

pub returns-in_default-read_totals-clause-said : goal.returns-in_default-read_totals-clause-said
returns-in_default-read_totals-clause-said c =
    let first = first_line c.loop-line.rest.now c.in-Some.line c.in-Some.behind c.in-Some.ensures.cases in
    let none = not_a_line c.args.version c.args.text.now c.loop-line.records.items c.loop-line.rest.now c.loop-line.invariant.so_far c.in-Some.line.now c.in-Some.behind.now first (rw c.in_default-2.is at c.in_ok-entry.ensures) c.in_default-read_totals.ensures in
    faulty_from c.args.version c.args.text.now c.loop-line.records.items c.loop-line.rest.now c.loop-line.invariant.so_far none c.loop-line.number c.args.first c.loop-line.invariant.place

pub returns-in_default-read_totals-clause-back : goal.returns-in_default-read_totals-clause-back
returns-in_default-read_totals-clause-back c =
    let first = first_line c.loop-line.rest.now c.in-Some.line c.in-Some.behind c.in-Some.ensures.cases in
    let none = not_a_line c.args.version c.args.text.now c.loop-line.records.items c.loop-line.rest.now c.loop-line.invariant.so_far c.in-Some.line.now c.in-Some.behind.now first (rw c.in_default-2.is at c.in_ok-entry.ensures) c.in_default-read_totals.ensures in
    no_trace c.args.version c.args.text.now c.loop-line.records.items c.loop-line.rest.now c.loop-line.invariant.so_far none

pub returns-then-not-is_empty-clause-said : goal.returns-then-not-is_empty-clause-said
returns-then-not-is_empty-clause-said c =
    let first = first_line c.loop-line.rest.now c.in-Some.line c.in-Some.behind c.in-Some.ensures.cases in
    goes_on_from c.args.version c.args.text.now c.loop-line.records.items c.loop-line.rest.now c.loop-line.invariant.so_far c.in-Some.line.now c.in-Some.behind.now first c.in-Some-read_totals.totals c.in-Some-read_totals.ensures
    c.loop-line.number c.args.first c.loop-line.invariant.place (not_empty c.in-Some.behind.now (sym c.is_empty.ensures ∙ c.if-not-is_empty.true))

pub returns-then-not-is_empty-clause-back : goal.returns-then-not-is_empty-clause-back
returns-then-not-is_empty-clause-back c =
    let first = first_line c.loop-line.rest.now c.in-Some.line c.in-Some.behind c.in-Some.ensures.cases in
    no_trace_on c.args.version c.args.text.now c.loop-line.records.items c.loop-line.rest.now c.loop-line.invariant.so_far c.in-Some.line.now c.in-Some.behind.now first c.in-Some-read_totals.totals c.in-Some-read_totals.ensures
    (not_empty c.in-Some.behind.now (sym c.is_empty.ensures ∙ c.if-not-is_empty.true))

pub returns-in_default-2-clause-back : goal.returns-in_default-2-clause-back
returns-in_default-2-clause-back c =
    let first = first_line c.loop-line.rest.now c.in-Some.line c.in-Some.behind c.in-Some.ensures.cases in
    λ all sums e.
    let its = only_trace c.args.version c.args.text.now c.loop-line.records.items c.loop-line.rest.now c.loop-line.invariant.so_far c.in-Some.line.now c.in-Some.behind.now first c.in-Some-read_totals.totals c.in-Some-read_totals.ensures all sums e in
    (refl, its.0, its.1)

pub returns-clause-said : goal.returns-clause-said
returns-clause-said c =
    let none = not_ended c.args.version c.args.text.now c.loop-line.records.items c.loop-line.rest.now c.loop-line.invariant.so_far (no_first_line c.loop-line.rest.now c.in_default.ensures.cases) in
    faulty_from c.args.version c.args.text.now c.loop-line.records.items c.loop-line.rest.now c.loop-line.invariant.so_far none c.loop-line.number c.args.first c.loop-line.invariant.place

pub returns-clause-back : goal.returns-clause-back
returns-clause-back c =
    let none = not_ended c.args.version c.args.text.now c.loop-line.records.items c.loop-line.rest.now c.loop-line.invariant.so_far (no_first_line c.loop-line.rest.now c.in_default.ensures.cases) in
    no_trace c.args.version c.args.text.now c.loop-line.records.items c.loop-line.rest.now c.loop-line.invariant.so_far none

pub returns-in_default-2-clause-spelled : goal.returns-in_default-2-clause-spelled
returns-in_default-2-clause-spelled c =
    let parts = parts_of (records_text c.args.version c.loop-line.records.items) (Some c.loop-line.rest.now) c.args.text.now c.loop-line.invariant.so_far.said in
    have_texts c.args.version c.loop-line.records.items parts.0 parts.2
