use Rattle.std.proofs.Common.{◌≡◌, ◌<◌, arith, length, refl, sym, true, ◌∙◌}
use Rattle.host_scenario.specs.Turns.{seen}
use Rattle.host_scenario.proofs.Followed.{after_call, call_stands}
use Rattle.host_scenario.proofs.turns.Reached.calls.Goals as goal

pub returns-clause-may : goal.returns-clause-may
returns-clause-may c =
    let items = c.args.records.now.items in
    let next = c.at_host-next in
    let settled : c.is_settled.result ≡ true = search in
    let some : next.result.place < length items = grind (arith, c.if-next-len.false, next.ensures.within, c.len.ensures) in
    call_stands (seen c.args.self.now items) (seen next.result items) next.result.place items next.ensures.seen (sym c.is_settled.ensures ∙ settled) refl some

pub returns-clause-after : goal.returns-clause-after
returns-clause-after c so =
    let items = c.args.records.now.items in
    let next = c.at_host-next in
    after_call (seen c.args.self.now items) (seen next.result items) _ next.result.place items next.ensures.seen refl refl
