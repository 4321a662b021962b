use Rattle.std.specs.Fmt.{HasWritten, IsPlainFormatter}
use Rattle.std.specs.List.{flat_map}
use Rattle.cli_text_page.specs.Escaping.{shown_as}
use Rattle.cli_text_page.proofs.foreign.write_text.Given as goal

-- what is shown for the characters so far is written
abbrev pub invariant-loop-character : goal.invariant-loop-character
invariant-loop-character g l =
    IsPlainFormatter l.initial.f → HasWritten g.W.Write.write_str_gives l.initial.f (flat_map shown_as l.yielded) l.f
