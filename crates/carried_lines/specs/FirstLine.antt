-- The first line of a trace that begins with carried lines.
use Rattle.std.specs.Prelude.{ℕ, List, codes}
use Rattle.world_calls.specs.declared.trace.Version.{Version}
use Rattle.world_calls.specs.declared.trace.Version.TheVariants.{One, Three, Two}

-- the first line, with its line feed
abbrev pub continued_header : Version → List ℕ
continued_header One = codes "camr-trace 1 continued\n"
continued_header Two = codes "camr-trace 2 continued\n"
continued_header Three = codes "camr-trace 3 continued\n"
