use Rattle.std.proofs.Common.{arith, rules}
use Rattle.std.proofs.lemmas.Grind.{common_steps}
use Rattle.std.proofs.lemmas.List.Elements.{All-push}
use Rattle.engine_lock.specs.Sharing.{IsNewCaller}
use Rattle.workers.proofs.seat.seated.Goals as goal

pub loop-caller-preserved : goal.loop-caller-preserved
loop-caller-preserved g c = record {
  in_order = grind (arith, common_steps);
  callers = rw c.push_reserved.ensures.items (All-push (λ seat. IsNewCaller g.B.Origin.setup g.B.Origin.begun seat.caller) c.loop-caller.seats.items _ c.loop-caller.invariant.callers c.in-Ok.ensures.given);
  takes = search rules;
  seats = grind (arith, common_steps);
  few = search rules;
  room = search rules;
}
