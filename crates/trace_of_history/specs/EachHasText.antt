-- That the records of a history have texts in the configuration's version: what of that is a law.
use Rattle.std.specs.Prelude.{List}
use Rattle.world_calls.specs.declared.record.Record.{Record}
use Rattle.trace.specs.HasText.{AllHaveText}
use Rattle.world.specs.World.{Setup, World, version_of}
use Rattle.world.specs.Lawful.{IsLawful}
use Rattle.world.specs.Flat.{flat}
use Rattle.world.specs.WorldRun.{WorldRun}

-- in every run of the world of every lawful setup
abbrev pub EachRecordHasText : Type 0
EachRecordHasText =
    (setup : Setup) → IsLawful setup → (records : List Record) (world : World) → WorldRun setup (flat records) world →
    AllHaveText (version_of setup) records
