-- Each record of a history has a text.
use Rattle.std.proofs.Common.{List, [], ◌∷◌, subst}
use Rattle.std.proofs.lemmas.List.Concat.{flat_map-cons}
use Rattle.world_calls.specs.declared.record.Record.{Record}
use Rattle.world_calls.specs.declared.record.Record.TheVariants.{Called, Advance}
use Rattle.trace.specs.HasText.{AllHaveText, HasText}
use Rattle.trace.specs.TraceText.{line_of}
use Rattle.trace.specs.Versions.{is_of}
use Rattle.world.specs.World.{Setup, World, beginning, version_of}
use Rattle.world.specs.Lawful.{IsLawful}
use Rattle.world.specs.Event.{Event, Reply}
use Rattle.world.specs.Flat.{events_of, flat}
use Rattle.world.specs.WorldRun.{Leads}
use Rattle.world_laws.proofs.Leads.{leads_split}
use Rattle.world_laws.proofs.Sound.{IsSound, leads_sound, beginning_sound}
use Rattle.trace_of_history.specs.EachHasText.{EachRecordHasText}
use Rattle.trace_of_history.proofs.Advances.{advance_has}
use Rattle.trace_of_history.proofs.Calls.{call_has}
use Rattle.trace_of_history.proofs.Somes.{HasLine, some_tested}
use Rattle.trace_of_history.proofs.Versions.{of_version}

line_has : (setup : Setup) (before : World) (entry : Record) (after : World) → IsLawful setup → IsSound setup before → Leads setup before (events_of entry) after → HasLine entry
line_has setup before (Called answer call) after lawful sound leads = call_has setup before call answer leads.0 leads.1
line_has setup before (Advance run instructions stop r0) after lawful sound leads = advance_has setup before run instructions stop r0 after lawful sound leads

-- it has a line, and is of the version
record_has : (setup : Setup) (before : World) (entry : Record) (after : World) → IsLawful setup → IsSound setup before → Leads setup before (events_of entry) after → HasText (version_of setup) entry
record_has setup before entry after lawful sound leads =
    let has = line_has setup before entry after lawful sound leads in
    λ fits. some_tested (is_of (version_of setup) entry) (line_of entry) (of_version setup before entry after lawful sound leads) (has fits)

each : (setup : Setup) (before : World) (records : List Record) (after : World) → IsLawful setup → IsSound setup before → Leads setup before (flat records) after → AllHaveText (version_of setup) records
each setup before [] after lawful sound leads = tt
each setup before (entry ∷ records) after lawful sound leads =
    let parts = leads_split setup before (events_of entry) (flat records) after (subst (λ (xs : List (Event × Reply)). Leads setup before xs after) (flat_map-cons events_of entry records) leads) in
    (record_has setup before entry parts.0 lawful sound parts.1, each setup parts.0 records after lawful (leads_sound setup before (events_of entry) parts.0 lawful parts.1 sound) parts.2)

pub each_record_has_text : EachRecordHasText
each_record_has_text setup lawful records world run = each setup (beginning setup) records world lawful (beginning_sound setup lawful run.0) run.1
