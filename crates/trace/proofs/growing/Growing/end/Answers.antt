use Rattle.std.proofs.Common.{[], inl}
use Rattle.std.proofs.lemmas.Result.{err_from_is_err_and}
use Rattle.trace.specs.TraceText.{totals_text}
use Rattle.trace.proofs.Grown.{fronts_no_room, goes_behind_room, goes_on_handed, stops_at, stops_ended}
use Rattle.trace.proofs.growing.Growing.end.Goals as goal

pub returns-in_err-make_room-clause-text : goal.returns-in_err-make_room-clause-text
returns-in_err-make_room-clause-text g c =
    let p = err_from_is_err_and c.from_residual.result c.from_residual.ensures.1 in
    rw p.1 (fronts_no_room (totals_text c.args.totals) _ _ _ c.in_err-make_room.ensures.text)

pub returns-clause-text : goal.returns-clause-text
returns-clause-text g c =
    goes_on_handed (totals_text c.args.totals) c.hand_on.result _ _ _ _ _ _
    (goes_behind_room (totals_text c.args.totals) _ _ _ _ _ c.in_ok-make_room.ensures.text c.put_totals.ensures.text)
    c.hand_on.ensures.text c.hand_on.ensures.all

pub returns-in_err-make_room-clause-stops : goal.returns-in_err-make_room-clause-stops
returns-in_err-make_room-clause-stops g c =
    let p = err_from_is_err_and c.from_residual.result c.from_residual.ensures.1 in
    rw p.1 (inl (stops_at [] _ _ _ c.in_err-make_room.ensures.text))

pub returns-clause-stops : goal.returns-clause-stops
returns-clause-stops g c = stops_ended (totals_text c.args.totals) c.hand_on.result _ _ _ _ _ _ _ c.in_ok-make_room.ensures.text c.put_totals.ensures.text c.hand_on.ensures.text
