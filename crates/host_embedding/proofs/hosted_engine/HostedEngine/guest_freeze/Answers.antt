use Rattle.world_calls.specs.declared.call.Call.TheVariants.{GuestFreeze}
use Rattle.host_embedding.specs.Counting.{IsNoted}
use Rattle.host_embedding.proofs.Counts.{counted_so, made_frozen}
use Rattle.host_embedding.proofs.hosted_engine.HostedEngine.guest_freeze.Goals as goal

pub returns-clause-counted : goal.returns-clause-counted
returns-clause-counted c =
    counted_so c.args.self.now _ (λ world before. IsNoted world (GuestFreeze c.args.place c.args.guest) before) c.note_call-noted.result c.note_call-noted.ensures
    (λ its. made_frozen c.guest_freeze-result.result c.args.self.now.engine c.guest_freeze-result.new.self c.guest_freeze-result.new.freeze c.args.guest c.args.place c.note_call-noted.result.before its c.guest_freeze-result.ensures.recorded)
    c.count_more.ensures
