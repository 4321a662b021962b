use Rattle.std.proofs.Common.{◌≡◌, ◌++◌, ◌∙◌, ap, refl}
use Rattle.std.proofs.lemmas.Result.{err_from_is_err_and}
use Rattle.trace.specs.TraceText.{header}
use Rattle.trace.proofs.Printing.{records_stopped, room_stopped, last_put, ended}
use Rattle.trace.proofs.printer.print.Goals as goal

pub returns-in_err-print_records-clause-printed : goal.returns-in_err-print_records-clause-printed
returns-in_err-print_records-clause-printed g c =
    let first : c.put.new.self ≡ header c.args.trace.now.version = c.put.ensures ∙ (ap (λ t. t ++ c.as_bytes.result.now) c.none.ensures ∙ (c.as_bytes.ensures.value ∙ c.header.ensures)) in
    let p = err_from_is_err_and c.from_residual.result c.from_residual.ensures.1 in
    rw (p.1, p.2) (records_stopped c.args.trace.now _ _ _ _ _ _ first refl c.in_err-print_records.ensures.text)

pub returns-in_err-make_room-clause-printed : goal.returns-in_err-make_room-clause-printed
returns-in_err-make_room-clause-printed g c =
    let first : c.put.new.self ≡ header c.args.trace.now.version = c.put.ensures ∙ (ap (λ t. t ++ c.as_bytes.result.now) c.none.ensures ∙ (c.as_bytes.ensures.value ∙ c.header.ensures)) in
    let p = err_from_is_err_and c.from_residual-in_err-make_room.result c.from_residual-in_err-make_room.ensures.1 in
    rw (p.1, p.2) (room_stopped c.args.trace.now _ _ _ _ _ _ _ _ _ first refl c.in_ok-print_records.ensures.text c.in_err-make_room.ensures.text)

pub returns-clause-printed : goal.returns-clause-printed
returns-clause-printed g c =
    let first : c.put.new.self ≡ header c.args.trace.now.version = c.put.ensures ∙ (ap (λ t. t ++ c.as_bytes.result.now) c.none.ensures ∙ (c.as_bytes.ensures.value ∙ c.header.ensures)) in
    ended c.args.trace.now c.flush.result _ _ _ _ _ _ _ _ _ first refl
    (last_put c.args.trace.now _ _ _ _ _ _ _ _ _ _ c.in_ok-print_records.ensures.text c.in_ok-make_room.ensures.text c.print_totals.ensures.text refl)
    c.flush.ensures.text c.flush.ensures.empty
