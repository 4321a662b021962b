use Rattle.std.proofs.Common.{List, Ok, Err, inl, inr, refl, subst, sym}
use Rattle.world_calls.specs.declared.record.Record.{Record}
use Rattle.world.specs.TotalsOf.{TotalsOf}
use Rattle.base.specs.declared.or_memory.OrMemory.TheVariants.{OutOfMemory, Fault}
use Rattle.replay.specs.OwnTrace.{OwnTraceIsAccepted}
use Rattle.replay.proofs.OneVerdict.{not_accepted}
use Rattle.replay.proofs.laws.own_trace_is_accepted.Goals as goal

accepted : OwnTraceIsAccepted
accepted engine trace (Ok done) version records is says = inl refl
accepted engine trace (Err OutOfMemory) version records is says = inr refl
accepted engine trace (Err (Fault fault)) version records is says =
    absurd (not_accepted engine.setup 0 trace fault says (version, subst (λ (rs : List Record). TotalsOf engine.setup rs trace.totals) (sym records) is))

pub returns : goal.returns
returns c = accepted
