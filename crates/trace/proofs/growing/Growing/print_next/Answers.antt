use Rattle.std.proofs.Common.{[], subst}
use Rattle.std.proofs.lemmas.Result.{err_from_is_err_and}
use Rattle.trace_lines.specs.Written.{IsPut}
use Rattle.world_calls.specs.declared.trace.Version.{Version}
use Rattle.trace.specs.TraceText.{record_text}
use Rattle.trace.proofs.Grown.{fronts_no_room, goes_behind_room, stops_at}
use Rattle.trace.proofs.growing.Growing.print_next.Goals as goal

pub returns-in_err-make_room-clause-text : goal.returns-in_err-make_room-clause-text
returns-in_err-make_room-clause-text g c =
    let p = err_from_is_err_and c.from_residual.result c.from_residual.ensures.1 in
    rw p.1 (fronts_no_room (record_text c.args.self.now.version c.args.entry.now) _ _ _ c.in_err-make_room.ensures.text)

pub returns-clause-text : goal.returns-clause-text
returns-clause-text g c =
    goes_behind_room (record_text c.args.self.now.version c.args.entry.now) _ _ _ _ _ c.in_ok-make_room.ensures.text
    (subst (λ (v : Version). IsPut (record_text v c.args.entry.now) c.make_room.new.self.waiting c.put.new.self.waiting) c.make_room.ensures.version c.put.ensures.text)

pub returns-in_err-make_room-clause-stops : goal.returns-in_err-make_room-clause-stops
returns-in_err-make_room-clause-stops g c =
    let p = err_from_is_err_and c.from_residual.result c.from_residual.ensures.1 in
    rw p.1 (stops_at [] _ _ _ c.in_err-make_room.ensures.text)

pub returns-in_err-make_room-clause-left : goal.returns-in_err-make_room-clause-left
returns-in_err-make_room-clause-left g c =
    let p = err_from_is_err_and c.from_residual.result c.from_residual.ensures.1 in
    rw p.1 c.make_room.ensures.left
