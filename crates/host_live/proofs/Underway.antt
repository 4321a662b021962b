-- What a record finds: some history led to the engine, so that it has a text.
use Rattle.std.proofs.Common.{◌≡◌, ◌∙◌, ℕ, List, [], ◌∷◌, ◌++◌, sym, ap, subst}
use Rattle.world_calls.specs.declared.record.Record.{Record}
use Rattle.world_calls.specs.declared.trace.Version.{Version}
use Rattle.engine_core.specs.ByNumber.{NumberedState, IsBehind, RecordFollows}
use Rattle.trace.specs.HasText.{AllHaveText, HasText}
use Rattle.trace_of_history.proofs.Each.{each_record_has_text}
use Rattle.world.specs.World.{Setup, version_of}
use Rattle.world.specs.Lawful.{IsLawful}
use Rattle.world.specs.WorldRun.{WorldRun}
use Rattle.world.specs.Flat.{flat}
use Rattle.host_live.specs.declared.printed.Printed.{Printed}
use Rattle.host_live.specs.Growth.{IsUnderway, StandsBehind}

last_has : (version : Version) (records : List Record) (told : Record) → AllHaveText version (records ++ told ∷ []) → HasText version told
last_has version [] told all = all.0
last_has version (first ∷ rest) told all = last_has version rest told all.1

pub told_has : (engine after : NumberedState) (printed : Printed) (told : Record) → IsUnderway engine printed → RecordFollows engine told after → after.setup ≡ engine.setup → HasText printed.lines.version told
told_has engine after printed told way follows setup =
    let next = follows way.records way.behind in
    let run : WorldRun engine.setup (flat (way.records ++ told ∷ [])) next.world = subst (λ (s : Setup). WorldRun s (flat (way.records ++ told ∷ [])) next.world) setup next.leads in
    subst (λ (v : Version). HasText v told) (sym way.version)
    (last_has (version_of engine.setup) way.records told (each_record_has_text engine.setup way.lawful (way.records ++ told ∷ []) next.world run))

pub underway_on : (engine after : NumberedState) (printed now : Printed) (told : Record) → IsUnderway engine printed → RecordFollows engine told after → after.setup ≡ engine.setup → now.lines.version ≡ printed.lines.version → IsUnderway after now
underway_on engine after printed now told way follows setup version = record {
  lawful = subst IsLawful (sym setup) way.lawful;
  version = version ∙ (way.version ∙ ap version_of (sym setup));
  records = way.records ++ told ∷ [];
  behind = follows way.records way.behind;
}

-- the engine stayed
pub underway_still : (engine : NumberedState) (printed now : Printed) → IsUnderway engine printed → now.lines.version ≡ printed.lines.version → IsUnderway engine now
underway_still engine printed now way version = record {
  lawful = way.lawful;
  version = version ∙ way.version;
  records = way.records;
  behind = way.behind;
}

pub underway_resumed : (setup : Setup) (engine : NumberedState) (printed : Printed) (count : ℕ) → IsLawful setup → engine.setup ≡ setup → printed.lines.version ≡ version_of setup → StandsBehind count engine → IsUnderway engine printed
underway_resumed setup engine printed count lawful same version stands = record {
  lawful = subst IsLawful (sym same) lawful;
  version = version ∙ ap version_of (sym same);
  records = stands.records;
  behind = stands.behind;
}
