use Rattle.std.proofs.Common.{◌≡◌, ◌<◌, [], ◌∷◌, ◌++◌, length, drop, ◌∙◌, arith}
use Rattle.workers.proofs.Parking.{begins, turns_left, turns_parked}
use Rattle.workers.proofs.settling.park_all.Goals as goal
use Rattle.workers.proofs.settling.park_all.Goals.{in-Some, in_default}

pub loop-init : goal.loop-init
loop-init g c = begins g.B.Origin.setup c.args.caller.now c.args.runs.now.items

pub loop-preserved : goal.loop-preserved
loop-preserved g c =
    let more : c.loop.counter < length c.args.runs.now.items = omega (arith, c.loop-test.true, c.len-end.ensures) in
    let rest : c.remove-run.new.self.items ≡ drop 1 c.loop.runs.items = c.remove-run.ensures.by_index.2 in
    elim c.match-park.branch [
      | in-Some w ↦ rw w.runs-is
          (turns_left g.B.Origin.setup c.args.caller.now c.loop.caller c.args.runs.now.items c.loop.runs.items c.loop.counter c.remove-run.result c.loop.invariant more c.remove-run.ensures.value c.park.new.caller
          w.push_reserved.new.self.items (w.push_reserved.ensures.items ∙ (λ i. rest i ++ w.in-Some.ensures.back.0 i ∷ [])) w.in-Some.ensures.back.1)
      | in_default w ↦ rw w.runs-is
          (turns_parked g.B.Origin.setup c.args.caller.now c.loop.caller c.args.runs.now.items c.loop.runs.items c.loop.counter c.remove-run.result c.loop.invariant more c.remove-run.ensures.value c.park.new.caller
          c.remove-run.new.self.items rest w.in_default.ensures.parked)
    ]
