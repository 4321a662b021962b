use Rattle.world_calls.specs.declared.call.Call.TheVariants.{Resume}
use Rattle.host_embedding.specs.Counting.{IsNoted}
use Rattle.host_embedding.proofs.Counts.{counted_so, made_resumed}
use Rattle.host_embedding.proofs.hosted_engine.HostedEngine.resume.Goals as goal

pub returns-clause-counted : goal.returns-clause-counted
returns-clause-counted c =
    counted_so c.args.self.now _ (λ world before. IsNoted world (Resume c.args.run) before) c.note_call-noted.result c.note_call-noted.ensures
    (λ its. made_resumed c.resume-result.result c.args.self.now.engine c.resume-result.new.self c.args.run c.note_call-noted.result.before its c.resume-result.ensures.recorded)
    c.count_more.ensures
