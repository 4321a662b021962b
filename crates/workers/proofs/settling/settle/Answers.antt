use Rattle.std.proofs.Common.{◌≡◌, [], List, All, ap, length, refl, sym, subst, ◌∙◌, arith, vec_len}
use Rattle.std.proofs.lemmas.Bool.{eqb-true}
use Rattle.inbox.specs.Views.{IsOf}
use Rattle.engine_core.specs.RunState.{RunState}
use Rattle.workers.specs.Serving.{SeatState, ServedState}
use Rattle.workers.specs.Settling.{AreSettledBy, IsSettled, IsUnsettled, SettledState}
use Rattle.workers.proofs.Parking.{empty_of, same_many, same_passes}
use Rattle.workers.proofs.settling.settle.Goals as goal

pub returns-then-is_empty-clause-settled : goal.returns-then-is_empty-clause-settled
returns-then-is_empty-clause-settled g c =
    let empty : vec_len c.park_by_first.new.runs ≡ 0 = eqb-true _ _ (sym c.is_empty.ensures ∙ c.if-is_empty.true) in
    let none : c.park_by_first.new.runs.items ≡ [] = empty_of c.park_by_first.new.runs.items (omega (arith, empty)) in
    let settled : SettledState = record { seats = c.park_by_first.new.seats.items; completions = c.served.inside.completions.items } in
    subst (λ (s : ServedState). IsSettled g.B.Origin.setup s settled) c.served.view_is
    (record {
      runs = subst (λ (left : List RunState). AreSettledBy g.B.Origin.setup c.served.inside.seats.items c.served.inside.runs.items left c.park_by_first.new.seats.items) none c.park_by_first.ensures;
      completions = refl;
    })

pub returns-then-is_empty-clause-all : goal.returns-then-is_empty-clause-all
returns-then-is_empty-clause-all g c =
    same_many g.B.Origin.setup c.served.inside.seats.items c.park_by_first.new.seats.items c.served.inside.runs.items c.park_by_first.new.runs.items c.park_by_first.ensures
    ∙ ap (λ (s : ServedState). length s.seats) c.served.view_is

pub returns-then-is_empty-clause-passes : goal.returns-then-is_empty-clause-passes
returns-then-is_empty-clause-passes g c inbox are =
    same_passes g.B.Origin.setup inbox c.served.inside.seats.items c.park_by_first.new.seats.items c.served.inside.runs.items c.park_by_first.new.runs.items c.park_by_first.ensures
    (subst (λ (s : ServedState). All (λ (seat : SeatState). IsOf inbox seat.pass) s.seats) (sym c.served.view_is) are)

pub returns-else-is_empty-clause-unsettled : goal.returns-else-is_empty-clause-unsettled
returns-else-is_empty-clause-unsettled g c =
    let back : ServedState = record { seats = c.park_by_first.new.seats.items; started = c.served.inside.started; ended = c.served.inside.ended; completions = c.served.inside.completions.items; runs = c.park_by_first.new.runs.items; out_of_memory = c.served.inside.out_of_memory } in
    subst (λ (s : ServedState). IsUnsettled g.B.Origin.setup s back) c.served.view_is
    (record {
      left = grind (arith, c.is_empty.ensures, c.if-is_empty.false);
      runs = c.park_by_first.ensures;
      rest = refl;
    })

pub returns-else-is_empty-clause-all : goal.returns-else-is_empty-clause-all
returns-else-is_empty-clause-all g c =
    same_many g.B.Origin.setup c.served.inside.seats.items c.park_by_first.new.seats.items c.served.inside.runs.items c.park_by_first.new.runs.items c.park_by_first.ensures
    ∙ ap (λ (s : ServedState). length s.seats) c.served.view_is

pub returns-else-is_empty-clause-passes : goal.returns-else-is_empty-clause-passes
returns-else-is_empty-clause-passes g c inbox are =
    same_passes g.B.Origin.setup inbox c.served.inside.seats.items c.park_by_first.new.seats.items c.served.inside.runs.items c.park_by_first.new.runs.items c.park_by_first.ensures
    (subst (λ (s : ServedState). All (λ (seat : SeatState). IsOf inbox seat.pass) s.seats) (sym c.served.view_is) are)
