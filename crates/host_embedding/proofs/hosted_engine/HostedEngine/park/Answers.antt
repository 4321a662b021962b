use Rattle.world_calls.specs.declared.call.Call.TheVariants.{Park}
use Rattle.host_embedding.specs.Counting.{IsNoted}
use Rattle.host_embedding.proofs.Counts.{counted_so, made_parked}
use Rattle.host_embedding.proofs.hosted_engine.HostedEngine.park.Goals as goal

pub returns-clause-counted : goal.returns-clause-counted
returns-clause-counted c =
    counted_so c.args.self.now _ (λ world before. IsNoted world (Park c.out_number.result) before) c.note_call-noted.result c.note_call-noted.ensures
    (λ its. made_parked c.park-result.result c.args.run.now.held c.park-result.new.run.held c.args.self.now.engine c.park-result.new.self c.out_number.result c.note_call-noted.result.before its c.out_number.ensures c.park-result.ensures.recorded)
    c.count_more.ensures
