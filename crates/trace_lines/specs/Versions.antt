-- What lines may say in a version's texts.
use Rattle.std.specs.Prelude.{Bool, true, false}
use Rattle.world_calls.specs.declared.trace.Version.{Version}
use Rattle.world_calls.specs.declared.trace.Version.TheVariants.{One, Three, Two}

-- CCBs have a class and an advice
abbrev pub has_classes : Version → Bool
has_classes One = false
has_classes Two = false
has_classes Three = true
