-- What recovering comes to, by what its parts came to.
use Rattle.std.proofs.Common.{◌≡◌, ◌∙◌, ℕ, Option, None, Some, Result, Ok, Err, List, inl, inr, ap, subst, sym}
use Rattle.std.specs.Prelude.{IsUtf8}
use Rattle.std.specs.Global.{Box}
use Rattle.world_calls.specs.declared.carried_line.CarriedLine.{CarriedLine}
use Rattle.world_calls.specs.declared.record.Record.{Record}
use Rattle.world.specs.World.{Setup}
use Rattle.whole_trace.specs.Continued.{items_of}
use Rattle.trace_front.specs.Front.{SaysFront}
use Rattle.trace_front.specs.declared.front.TraceFront.{TraceFront}
use Rattle.replay.specs.declared.fault.ReplayFault.{ReplayFault}
use Rattle.host_metrics.specs.Counted.{MetricsState}
use Rattle.host_embedding.specs.declared.hosted_engine.HostedEngine.{HostedEngine}
use Rattle.host_opening.specs.Opened.{IsRead, none_counted}
use Rattle.host_opening.specs.Recovered.{IsFollowed, IsReadFront, IsUnfollowed, Recovers, RecoversBy, StandsBy, StandsSo}
use Rattle.host_opening.specs.declared.recovering.RecoverFault.{RecoverFault}
use Rattle.host_opening.specs.declared.recovering.RecoverFault.TheVariants.{OutOfMemory, NotUtf8, Manifest, Form, Replay}

-- other counters in their place
with_metrics : (config : Setup) (lines : Option (List CarriedLine)) (records : List Record) (hosted : HostedEngine) (metrics : MetricsState) → StandsSo config lines records hosted → StandsSo config lines records (record hosted { metrics = metrics })
with_metrics config None records hosted metrics stands = record { run = stands.run; setup_is = stands.setup_is; history = stands.history; taken = stands.taken; left = stands.left }
with_metrics config (Some lines) records hosted metrics stands = record { world = stands.world; has = stands.has; stands = let its = stands.stands in record { run = its.run; setup_is = its.setup_is; history = its.history; taken = its.taken; left = its.left } }

pub counted_by : (config : Setup) (front : TraceFront) (led : HostedEngine) (handle : Box HostedEngine) (metrics : MetricsState) → StandsSo config (items_of front.whole.carried) front.whole.trace.records.items led → metrics ≡ none_counted
    → handle.value ≡ record led { metrics = metrics } → StandsBy config front (Ok handle)
counted_by config front led handle metrics stands none is = (
  subst (λ (it : HostedEngine). StandsSo config (items_of front.whole.carried) front.whole.trace.records.items it) (sym is) (with_metrics config (items_of front.whole.carried) front.whole.trace.records.items led metrics stands),
  ap (λ (it : HostedEngine). it.metrics) is ∙ none,
)

-- the text was read, its lines follow, and the engine stands where they lead, or memory was refused
pub stands : (config : Setup) (text : List ℕ) (front : TraceFront) (result : Result (Box HostedEngine) RecoverFault) → SaysFront text (Ok front) → IsFollowed config front → StandsBy config front result → RecoversBy config text result
stands config text front (Ok handle) read followed is = record { front = front; read = read; followed = followed; stands = is.0; metrics = is.1 }
stands config text front (Err OutOfMemory) read followed is = tt
stands config text front (Err NotUtf8) read followed is = absurd is
stands config text front (Err (Manifest fault)) read followed is = absurd is
stands config text front (Err (Form fault)) read followed is = absurd is
stands config text front (Err (Replay fault)) read followed is = absurd is

-- the text was read, and one of its lines does not follow
pub unfollowed : (config : Setup) (text : List ℕ) (front : TraceFront) (fault : ReplayFault) → SaysFront text (Ok front) → IsUnfollowed config front fault → RecoversBy config text (Err (Replay fault))
unfollowed config text front fault read is = (front, read, is)

-- the text was not read
pub unread : (config : Setup) (text : List ℕ) (fault : RecoverFault) → IsReadFront text (Err fault) → RecoversBy config text (Err fault)
unread config text OutOfMemory is = tt
unread config text NotUtf8 is = is
unread config text (Manifest fault) is = absurd is
unread config text (Form fault) is = is
unread config text (Replay fault) is = absurd is

-- the manifest was read
pub means : (manifest text : List ℕ) (config : Setup) (result : Result (Box HostedEngine) RecoverFault) → IsRead manifest (Ok config) → RecoversBy config text result → Recovers manifest text result
means manifest text config (Ok handle) read is = (config, read.0, read.1, is)
means manifest text config (Err OutOfMemory) read is = tt
means manifest text config (Err NotUtf8) read is = inr (config, read.0, read.1, is)
means manifest text config (Err (Manifest fault)) read is = absurd is
means manifest text config (Err (Form fault)) read is = (config, read.0, read.1, is)
means manifest text config (Err (Replay fault)) read is = (config, read.0, read.1, is)

-- the manifest is not UTF-8
pub no_manifest : (manifest text : List ℕ) → ¬ (IsUtf8 manifest) → Recovers manifest text (Err NotUtf8)
no_manifest manifest text none = inl none
