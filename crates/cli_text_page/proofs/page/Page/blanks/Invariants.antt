use Rattle.std.proofs.Common.{replicate}
use Rattle.cli_text_page.specs.Page.{Puts}
use Rattle.cli_text_page.proofs.page.Page.blanks.Given as goal

-- so many blanks stand after what stood there
abbrev pub invariant-loop-blank : goal.invariant-loop-blank
invariant-loop-blank l = Puts l.initial.self (replicate l._blank 32) l.self
