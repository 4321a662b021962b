use Rattle.std.proofs.Common.{◌≡◌, sym, subst, arith}
use Rattle.std.specs.Prelude.{slice_index_or}
use Rattle.workers.specs.Serving.{SeatState}
use Rattle.workers.proofs.Parking.{by_first}
use Rattle.workers.proofs.settling.park_by_first.Goals as goal

pub returns-then-not-is_empty : goal.returns-then-not-is_empty
returns-then-not-is_empty g c =
    let seat : SeatState = record { caller = c.behind-seats.inside.caller; pass = c.behind-seats.inside.pass } in
    let is : seat ≡ slice_index_or c.args.seats.now.items 0 seat =
    subst (λ (s : SeatState). s ≡ slice_index_or c.args.seats.now.items 0 s) (sym c.behind-seats.view_is) c.index_mut.ensures.value in
    by_first g.B.Origin.setup c.args.seats.now.items c.behind-seats.inside.caller c.park_all.new.caller c.behind-seats.inside.pass c.args.runs.now.items c.park_all.new.runs.items (grind (arith, c.is_empty.ensures, c.if-not-is_empty.true)) is c.park_all.ensures
