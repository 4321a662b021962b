use Rattle.std.proofs.Common.{ap, arith, ◌∙◌}
use Rattle.bpf_accepted.specs.Verdict.{Verdict}
use Rattle.engine_lock.proofs.QueuePrograms.{program_there}
use Rattle.engine_lock.proofs.comparing.queue_of.Goals as goal

pub returns-then-is_of : goal.returns-then-is_of
returns-then-is_of c setup are =
    c.is_of.ensures.0 c.if-is_of.true
    ∙ (ap (λ (v : Verdict). v.program) c.deref.ensures
    ∙ program_there setup c.args.programs.now c.queue-queue.result.0 c.index-programs-place.result are (omega (arith, c.if-place-programs.false)) c.index-programs-place.is)
