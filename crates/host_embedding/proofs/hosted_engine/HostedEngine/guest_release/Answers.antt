use Rattle.world_calls.specs.declared.call.Call.TheVariants.{GuestRelease}
use Rattle.host_embedding.specs.Counting.{IsNoted}
use Rattle.host_embedding.proofs.Counts.{counted_so, made_released}
use Rattle.host_embedding.proofs.hosted_engine.HostedEngine.guest_release.Goals as goal

pub returns-clause-counted : goal.returns-clause-counted
returns-clause-counted c =
    counted_so c.args.self.now _ (λ world before. IsNoted world (GuestRelease c.args.freeze) before) c.note_call-noted.result c.note_call-noted.ensures
    (λ its. made_released c.guest_release-result.result c.args.self.now.engine c.guest_release-result.new.self c.guest_release-result.new.left c.args.freeze c.note_call-noted.result.before its c.guest_release-result.ensures.recorded)
    c.count_more.ensures
