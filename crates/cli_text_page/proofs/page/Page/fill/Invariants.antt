use Rattle.cli_text_page.specs.Page.{Adds}
use Rattle.cli_text_page.proofs.page.Page.fill.Given as goal

-- what stood there stands in front
abbrev pub invariant-loop-place : goal.invariant-loop-place
invariant-loop-place l = Adds l.initial.self l.self
