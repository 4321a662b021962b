use Rattle.std.proofs.Common.{List, All, sym, subst}
use Rattle.inbox.specs.Views.{IsOf}
use Rattle.workers.specs.Serving.{SeatState}
use Rattle.host_scenario.proofs.host.seats_behind.Goals as goal

pub returns-in-Ok-clause-passes : goal.returns-in-Ok-clause-passes
returns-in-Ok-clause-passes g c =
    subst (λ (xs : List SeatState). All (λ (seat : SeatState). IsOf c.args.inbox.now seat.pass) xs) (sym c.into_seats.ensures)
    (c.in-Ok.ensures.passes c.args.inbox.now c.requires)

pub returns-in-Err-clause-passes : goal.returns-in-Err-clause-passes
returns-in-Err-clause-passes g c =
    subst (λ (xs : List SeatState). All (λ (seat : SeatState). IsOf c.args.inbox.now seat.pass) xs) (sym c.into_seats-in-Err.ensures)
    (c.in-Err.ensures.passes c.args.inbox.now c.requires)
