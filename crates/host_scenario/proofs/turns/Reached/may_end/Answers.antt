use Rattle.std.proofs.Common.{◌<◌, arith, length, refl}
use Rattle.host_scenario.specs.Turns.{seen}
use Rattle.host_scenario.proofs.Followed.{end_not}
use Rattle.host_scenario.proofs.turns.Reached.may_end.Goals as goal

pub returns-then-next-len : goal.returns-then-next-len
returns-then-next-len c =
    let items = c.args.records.now.items in
    let next = c.at_host-next in
    let some : next.result.place < length items = grind (arith, c.if-next-len.true, c.len.ensures) in
    end_not (seen c.args.self items) (seen next.result items) next.result.place items next.ensures.seen refl some
