use Rattle.std.proofs.Common.{◌≡◌, ◌<◌, [], ◌∷◌, ◌++◌, List, ap, arith, drop, length, map, subst, sym, ◌∙◌}
use Rattle.std.specs.Prelude.{slice_index_or}
use Rattle.std.proofs.lemmas.List.Elements.{All-drop}
use Rattle.inbox.specs.Views.{IsOf, PassView}
use Rattle.workers.specs.Serving.{SeatState}
use Rattle.host_scenario.proofs.Taken.{caller_of, has_taken, moved_all, moves_one, pass_moves, pass_of}
use Rattle.host_scenario.proofs.Whole.{has_made, whole_trace}
use Rattle.host_scenario.proofs.running.close.Given as given
use Rattle.host_scenario.proofs.running.close.Goals as goal

pub loop-seats-preserved : goal.loop-seats-preserved
loop-seats-preserved g c =
    let some : 0 < length c.loop-seats.seats.items = grind (arith, c.is_empty.ensures, c.loop-seats-test.true) in
    let rest : c.remove.new.self.items ≡ drop 1 c.loop-seats.seats.items = c.remove.ensures.by_index.2 in record {
      callers = moves_one caller_of c.loop-seats.callers.items c.push_reserved-in-loop-seats-2.new.self.items (c.args.host.caller ∷ map caller_of c.args.host.seats.items) c.loop-seats.seats.items c.remove.new.self.items c.remove.result c.caller.inside.caller c.loop-seats.invariant.callers some c.remove.ensures.value rest
          (ap (λ (s : SeatState). s.caller) c.caller.view_is) c.push_reserved-in-loop-seats-2.ensures.items;
      takes = moves_one pass_of c.loop-seats.takes.items c.push_reserved-in-loop-seats.new.self.items (c.args.host.take ∷ map pass_of c.args.host.seats.items) c.loop-seats.seats.items c.remove.new.self.items c.remove.result c.caller.inside.pass c.loop-seats.invariant.takes some c.remove.ensures.value rest
          (ap (λ (s : SeatState). s.pass) c.caller.view_is) c.push_reserved-in-loop-seats.ensures.items;
      are = pass_moves c.args.host.inbox c.loop-seats.takes.items c.push_reserved-in-loop-seats.new.self.items c.loop-seats.seats.items c.remove.result c.caller.inside.pass c.loop-seats.invariant.are c.loop-seats.invariant.rest some c.remove.ensures.value
          (ap (λ (s : SeatState). s.pass) c.caller.view_is) c.push_reserved-in-loop-seats.ensures.items;
      rest = subst (λ (ss : List SeatState). (k : _) (d : SeatState) → k < length ss → IsOf c.args.host.inbox (slice_index_or ss k d).pass) (sym rest) (All-drop (λ (s : SeatState). IsOf c.args.host.inbox s.pass) 1 c.loop-seats.seats.items c.loop-seats.invariant.rest);
      caller_room = omega (arith, c.push_reserved-in-loop-seats-2.ensures.len, c.push_reserved-in-loop-seats-2.ensures.capacity, c.remove.ensures.len, c.loop-seats.invariant.caller_room, some);
      take_room = omega (arith, c.push_reserved-in-loop-seats.ensures.len, c.push_reserved-in-loop-seats.ensures.capacity, c.remove.ensures.len, c.loop-seats.invariant.take_room, some);
    }

-- no record was handed on
whole_history : (g : given.Over) (c : goal.After-shut g) → c.shut.result.records.items ≡ c.in-Ok-close.engine.history
whole_history g c = c.shut.ensures.records ∙ ap (λ n. drop n c.in-Ok-close.engine.history) c.in-Ok-close.ensures.closed.since.untaken

pub returns-in-Ok-close-clause-trace : goal.returns-in-Ok-close-clause-trace
returns-in-Ok-close-clause-trace g c = whole_trace g.B.Origin.setup g.B.Origin.begun _ c.in-Ok-close.engine c.shut.result.version c.shut.result.records.items c.shut.result.totals c.in-Ok-close.ensures.closed.since c.shut.ensures.version (whole_history g c) c.shut.ensures.totals

pub returns-in-Ok-close-clause-made : goal.returns-in-Ok-close-clause-made
returns-in-Ok-close-clause-made g c =
    let none : length c.loop-seats.seats.items ≡ 0 = grind (arith, c.is_empty.ensures, c.loop-seats-test.false) in
    has_made g.B.Origin.setup g.B.Origin.begun c.loop-seats.callers.items c.args.host.caller c.in-Ok-close.engine c.shut.result.records.items c.in-Ok-close.ensures.closed
    (record { rest = map caller_of c.args.host.seats.items; is = moved_all caller_of c.loop-seats.callers.items (c.args.host.caller ∷ map caller_of c.args.host.seats.items) c.loop-seats.seats.items c.loop-seats.invariant.callers none })
    (whole_history g c)

pub returns-in-Ok-close-clause-taken : goal.returns-in-Ok-close-clause-taken
returns-in-Ok-close-clause-taken g c kept =
    let none : length c.loop-seats.seats.items ≡ 0 = grind (arith, c.is_empty.ensures, c.loop-seats-test.false) in
    has_taken g.B.Origin.setup g.B.Origin.begun c.args.host.inbox c.args.host.put c.args.host.take c.args.host.seats.items c.args.host.caller c.loop-seats.callers.items c.push_reserved.new.self.items c.loop-seats.takes.items c.in-Ok.left.items c.in-Ok-close.engine c.shut.result.records.items
    kept
    (moved_all caller_of c.loop-seats.callers.items (c.args.host.caller ∷ map caller_of c.args.host.seats.items) c.loop-seats.seats.items c.loop-seats.invariant.callers none)
    (c.push_reserved.ensures.items ∙ ap (λ (ps : List PassView). ps ++ c.args.host.put ∷ []) c.args.host.put_room.0)
    (moved_all pass_of c.loop-seats.takes.items (c.args.host.take ∷ map pass_of c.args.host.seats.items) c.loop-seats.seats.items c.loop-seats.invariant.takes none)
    c.in-Ok.ensures.closed c.in-Ok-close.ensures.closed (whole_history g c)
