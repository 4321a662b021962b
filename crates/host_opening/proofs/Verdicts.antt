-- The verdict on what is there of a trace, by what a replay says.
use Rattle.std.proofs.Common.{◌≡◌, ℕ, Bool, true, false, Option, Some, None, Result, Ok, Err, List, length, refl, subst, sym, ◌∙◌}
use Rattle.base.specs.declared.or_memory.OrMemory.{OrMemory}
use Rattle.base.specs.declared.or_memory.OrMemory.TheVariants.{OutOfMemory, Fault}
use Rattle.world_calls.specs.declared.carried_line.CarriedLine.{CarriedLine}
use Rattle.world_calls.specs.declared.trace.Trace.{Trace}
use Rattle.world.specs.World.{Setup, version_of}
use Rattle.whole_trace.specs.Continued.{items_of}
use Rattle.trace_front.specs.declared.front.TraceFront.{TraceFront}
use Rattle.replay.specs.declared.fault.ReplayFault.{ReplayFault}
use Rattle.replay.specs.declared.fault.ReplayFault.TheVariants.{Behind}
use Rattle.host_opening.specs.Recovered.{Follows, IsAccepted, IsFollowed, IsJudgedSo, IsRejected, IsThere, Judges}

there_ended : (ended : Bool) (count : ℕ) (fault : ReplayFault) → ended ≡ true → IsThere ended count fault
there_ended true count fault is = tt
there_ended false count fault is = absurd (let bad : false ≡ true = is in cc)

there_before : (ended : Bool) (count : ℕ) (fault : ReplayFault) → IsThere false count fault → IsThere ended count fault
there_before true count fault there = tt
there_before false count fault there = there

-- a line of a trace whose last line is there
pub judged_ended : (front : TraceFront) (fault : ReplayFault) → front.is_ended ≡ true → IsJudgedSo front fault (Err (Fault fault))
judged_ended front fault is = (refl, there_ended front.is_ended (length front.whole.trace.records.items) fault is)

-- a line before the last one
pub judged_before : (front : TraceFront) (fault : ReplayFault) → IsThere false (length front.whole.trace.records.items) fault → IsJudgedSo front fault (Err (Fault fault))
judged_before front fault there = (refl, there_before front.is_ended (length front.whole.trace.records.items) fault there)

version_of_accepted : (config : Setup) (lines : Option (List CarriedLine)) (trace : Trace) (done : Unit {0}) → Follows config lines trace (Ok done) → trace.version ≡ version_of config
version_of_accepted config None trace done follows = follows.0
version_of_accepted config (Some lines) trace done follows = follows.is.0

accepted : (config : Setup) (lines : Option (List CarriedLine)) (trace : Trace) (done : Unit {0}) → Follows config lines trace (Ok done) → IsAccepted config lines trace
accepted config None trace done follows = follows
accepted config (Some lines) trace done follows = follows

rejected : (config : Setup) (lines : Option (List CarriedLine)) (trace : Trace) (fault : ReplayFault) → Follows config lines trace (Err (Fault fault)) → IsRejected config lines trace fault
rejected config None trace fault follows = follows
rejected config (Some lines) trace fault follows = follows

version_of_rejected : (config : Setup) (lines : Option (List CarriedLine)) (trace : Trace) (carried records : ℕ) → IsRejected config lines trace (Behind carried records) → trace.version ≡ version_of config
version_of_rejected config None trace carried records is = is.0
version_of_rejected config (Some lines) trace carried records is = is.is.0

pub followed : (config : Setup) (front : TraceFront) (done : Unit {0}) → Follows config (items_of front.whole.carried) front.whole.trace (Ok done) → IsFollowed config front
followed config front done follows = record {
  version = version_of_accepted config (items_of front.whole.carried) front.whole.trace done follows;
  accepted = λ ended. accepted config (items_of front.whole.carried) front.whole.trace done follows;
}

pub judges : (config : Setup) (front : TraceFront) (fault : ReplayFault) (result : Result (Unit {0}) (OrMemory ReplayFault)) → Follows config (items_of front.whole.carried) front.whole.trace (Err (Fault fault)) → IsJudgedSo front fault result → Judges config front result
judges config front fault (Ok done) follows judged = record {
  version = version_of_rejected config (items_of front.whole.carried) front.whole.trace judged.1.0 judged.1.1
      (subst (λ (it : ReplayFault). IsRejected config (items_of front.whole.carried) front.whole.trace it) judged.1.2 (rejected config (items_of front.whole.carried) front.whole.trace fault follows));
  accepted = λ ended. absurd (let bad : false ≡ true = sym judged.0 ∙ ended in cc);
}
judges config front fault (Err OutOfMemory) follows judged = absurd judged
judges config front fault (Err (Fault other)) follows judged = record {
  rejected = subst (λ (it : ReplayFault). IsRejected config (items_of front.whole.carried) front.whole.trace it) (sym judged.0) (rejected config (items_of front.whole.carried) front.whole.trace fault follows);
  there = subst (λ (it : ReplayFault). IsThere front.is_ended (length front.whole.trace.records.items) it) (sym judged.0) judged.1;
}
