-- An engine that is led on by records, one after the other, and where it stands then.
use Rattle.std.proofs.Common.{◌≡◌, true, List, [], ◌∷◌, ◌++◌, Some, length, refl, ap, sym, subst, ◌∙◌, append-nil, append_assoc}
use Rattle.std.specs.Prelude.{is_some}
use Rattle.freeze_ledger.specs.declared.freeze.Freeze.{Freeze}
use Rattle.world_calls.specs.declared.carried_line.CarriedLine.{CarriedLine}
use Rattle.world_calls.specs.declared.record.Record.{Record}
use Rattle.world.specs.World.{Setup, World}
use Rattle.engine_beginning.specs.Lines.{lines_of}
use Rattle.engine_core.specs.ByNumber.{guests_of}
use Rattle.engine_core.specs.EngineState.{EngineState, IsRun}
use Rattle.engine_succession.specs.FromLines.{BeginsWith}
use Rattle.host_embedding.specs.Beginning.{KnowsBeginning}
use Rattle.host_embedding.specs.Guests.{HasGuests}
use Rattle.host_embedding.specs.Recovering.{BeginsSo, Follows, FollowsAll, IsChecked, StandsAfter, StandsOver}
use Rattle.host_embedding.specs.declared.hosted_engine.HostedEngine.{HostedEngine}
use Rattle.host_embedding.specs.Fates.{KeepsFates}
use Rattle.host_embedding.specs.declared.fates.RunFate.{RunFate}
use Rattle.host_embedding.proofs.Courses.{none_kept}

pub follows_none : (state : EngineState) → state.taken ≡ length state.history → FollowsAll state [] state
follows_none state all = record { setup = refl; history = sym (append-nil state.history); taken = all }

pub follows_more : (old now new : EngineState) (records : List Record) (told : Record) → FollowsAll old records now → Follows now told new → FollowsAll old (records ++ told ∷ []) new
follows_more old now new records told before next = record {
  setup = next.setup ∙ before.setup;
  history = next.history ∙ (ap (λ (h : List Record). h ++ told ∷ []) before.history ∙ append_assoc old.history records (told ∷ []));
  taken = next.taken;
}

-- all records were made, and the runs that are left are those that are out
pub stands : (state : EngineState) (records : List Record) (led hosted : HostedEngine) → state.history ≡ [] → FollowsAll state records led.engine → hosted ≡ led → IsChecked led → StandsAfter state.setup records hosted
stands state records led hosted none followed same checked =
    let history : led.engine.history ≡ records = followed.history ∙ ap (λ (h : List Record). h ++ records) none in
    subst (StandsAfter state.setup records) (sym same) (record {
      run = checked.0;
      setup_is = followed.setup;
      history = history;
      taken = followed.taken ∙ ap (λ (h : List Record). length h) history;
      left = checked.1;
    })

-- ---- an engine that begins with lines

pub begins_so : (config : Setup) (lines : List CarriedLine) (engine : EngineState) (tokens : List Freeze) → BeginsWith config lines engine tokens → BeginsSo config lines engine
begins_so config lines engine tokens begins = (begins.world, begins.has, begins.engine_is)

pub its_guests : (config : Setup) (lines : List CarriedLine) (engine : EngineState) (tokens : List Freeze) → IsRun engine → BeginsWith config lines engine tokens → HasGuests engine tokens
its_guests config lines engine tokens run begins =
    record { run = run; all = begins.guests_are ∙ ap (λ (s : EngineState). guests_of s.world.transport.freezes) (sym begins.engine_is) }

one_world : (a b : World) → Some a ≡ Some b → a ≡ b
one_world a b same = cc

pub its_lines : (config : Setup) (lines : List CarriedLine) (engine : EngineState) (tokens : List Freeze) → BeginsWith config lines engine tokens → KnowsBeginning engine true lines
its_lines config lines engine tokens begins = record {
  continued = ap (λ (s : EngineState). is_some s.setup.carried) (sym begins.engine_is);
  lines_are = λ fresh world some.
      sym begins.has.lines_are ∙ ap (λ (w : World). lines_of w) (one_world begins.world world (ap (λ (s : EngineState). s.setup.carried) (sym begins.engine_is) ∙ some));
}

-- no record, and no run that has done anything
pub its_fates : (config : Setup) (lines : List CarriedLine) (engine : EngineState) (tokens : List Freeze) (fates : List RunFate) → BeginsWith config lines engine tokens → fates ≡ [] → KeepsFates fates engine.history
its_fates config lines engine tokens fates begins none = none_kept fates engine.history none (ap (λ (s : EngineState). s.history) begins.engine_is)

pub stands_over : (config : Setup) (lines : List CarriedLine) (records : List Record) (engine : EngineState) (hosted : HostedEngine) → BeginsSo config lines engine → StandsAfter engine.setup records hosted → StandsOver config lines records hosted
stands_over config lines records engine hosted begins stands = record {
  world = begins.0;
  has = begins.1;
  stands = subst (λ (s : EngineState). StandsAfter s.setup records hosted) begins.2 stands;
}
