use Rattle.std.proofs.Common.{refl, ◌∙◌, arith}
use Rattle.std.proofs.lemmas.Result.{err_from_is_err_and}
use Rattle.trace.proofs.Printing.{nothing_passed, record_passed, records_cut}
use Rattle.trace.proofs.Spelled.{has_line, has_there, put_so}
use Rattle.trace.proofs.printer.print_records.Goals as goal

pub loop-number-init : goal.loop-number-init
loop-number-init g c = record {
  so_far = nothing_passed c.args.trace.now.version c.args.page.now _ _;
  most = omega (arith, c.requires.first);
  same = refl;
}

pub returns-in_err-make_room-clause-text : goal.returns-in_err-make_room-clause-text
returns-in_err-make_room-clause-text g c =
    let p = err_from_is_err_and c.from_residual.result c.from_residual.ensures.1 in
    rw (p.1, p.2) (records_cut c.args.trace.now.version c.args.trace.now.records.items c.loop-number.number _ _ _ _ _ _ _ _ _ c.loop-number.invariant.so_far c.in_err-make_room.ensures.text)

pub loop-number-preserved : goal.loop-number-preserved
loop-number-preserved g c =
    let version = c.args.trace.now.version in
    let records = c.args.trace.now.records.items in
    let within = rw c.len-number-end.ensures at c.loop-number-test.true in
    let entry = c.index-entry.result.now in
    let line = has_line version entry (has_there version records c.loop-number.number entry within c.index-entry.ensures c.requires.spelled) c.fits.ensures in
    record {
      so_far = record_passed version records c.loop-number.number entry _ _ _ _ _ _ _ _ _ _ within c.index-entry.ensures
          c.loop-number.invariant.so_far c.in_ok-make_room.ensures.text (put_so _ _ _ _ line.1 c.print_record.ensures.text) refl;
      most = omega (arith, c.make_room.ensures.most, c.loop-number.invariant.most);
      same = c.make_room.ensures.same ∙ c.loop-number.invariant.same;
    }

pub print_record-requires-clause-spelled : goal.print_record-requires-clause-spelled
print_record-requires-clause-spelled g c =
    (has_line c.args.trace.now.version c.index-entry.result.now
    (has_there c.args.trace.now.version c.args.trace.now.records.items c.loop-number.number c.index-entry.result.now (rw c.len-number-end.ensures at c.loop-number-test.true) c.index-entry.ensures c.requires.spelled)
    c.fits.ensures).0
