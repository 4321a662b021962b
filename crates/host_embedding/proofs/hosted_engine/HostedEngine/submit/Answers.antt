use Rattle.std.proofs.Common.{ℕ, Option, subst}
use Rattle.world.specs.World.{World, class_kept}
use Rattle.world_calls.specs.declared.call.Call.TheVariants.{Submit}
use Rattle.host_metrics.specs.declared.before.Before.{Before}
use Rattle.host_embedding.specs.Counting.{IsNoted, IsNotedOf}
use Rattle.host_embedding.proofs.Counts.{counted_so, keeps_so, made_called}
use Rattle.host_embedding.proofs.hosted_engine.HostedEngine.submit.Goals as goal

pub count_more-requires-clause-kept : goal.count_more-requires-clause-kept
count_more-requires-clause-kept c =
    (keeps_so c.args.self.now.engine c.submit-result.new.self (λ world before. IsNoted world (Submit (record { 0 = c.args.queue }) c.args.priority c.args.retries (class_kept c.args.self.now.engine.setup c.args.class)) before) c.note_call-noted.result
    (subst (λ (said : Option ℕ). IsNotedOf c.args.self.now.engine (λ (world : World) (before : Before). IsNoted world (Submit (record { 0 = c.args.queue }) c.args.priority c.args.retries said) before) c.note_call-noted.result) c.class_said.ensures c.note_call-noted.ensures)
    (λ its. made_called c.submit-result.result c.args.self.now.engine c.submit-result.new.self _ (Submit (record { 0 = c.args.queue }) c.args.priority c.args.retries (class_kept c.args.self.now.engine.setup c.args.class)) c.note_call-noted.result.before its c.submit-result.ensures.recorded)).0

pub count_more-requires-clause-within : goal.count_more-requires-clause-within
count_more-requires-clause-within c =
    (keeps_so c.args.self.now.engine c.submit-result.new.self (λ world before. IsNoted world (Submit (record { 0 = c.args.queue }) c.args.priority c.args.retries (class_kept c.args.self.now.engine.setup c.args.class)) before) c.note_call-noted.result
    (subst (λ (said : Option ℕ). IsNotedOf c.args.self.now.engine (λ (world : World) (before : Before). IsNoted world (Submit (record { 0 = c.args.queue }) c.args.priority c.args.retries said) before) c.note_call-noted.result) c.class_said.ensures c.note_call-noted.ensures)
    (λ its. made_called c.submit-result.result c.args.self.now.engine c.submit-result.new.self _ (Submit (record { 0 = c.args.queue }) c.args.priority c.args.retries (class_kept c.args.self.now.engine.setup c.args.class)) c.note_call-noted.result.before its c.submit-result.ensures.recorded)).1

pub returns-clause-counted : goal.returns-clause-counted
returns-clause-counted c =
    counted_so c.args.self.now _ (λ world before. IsNoted world (Submit (record { 0 = c.args.queue }) c.args.priority c.args.retries (class_kept c.args.self.now.engine.setup c.args.class)) before) c.note_call-noted.result
    (subst (λ (said : Option ℕ). IsNotedOf c.args.self.now.engine (λ (world : World) (before : Before). IsNoted world (Submit (record { 0 = c.args.queue }) c.args.priority c.args.retries said) before) c.note_call-noted.result) c.class_said.ensures c.note_call-noted.ensures)
    (λ its. made_called c.submit-result.result c.args.self.now.engine c.submit-result.new.self _ (Submit (record { 0 = c.args.queue }) c.args.priority c.args.retries (class_kept c.args.self.now.engine.setup c.args.class)) c.note_call-noted.result.before its c.submit-result.ensures.recorded)
    c.count_more.ensures
