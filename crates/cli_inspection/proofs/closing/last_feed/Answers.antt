use Rattle.std.proofs.Common.{arith, drop}
use Rattle.std.proofs.lemmas.Str.Pattern.{NoCharPasses-char, drop_at_char}
use Rattle.cli_inspection.proofs.OpenTraces.{has_none, joined}
use Rattle.cli_inspection.proofs.closing.last_feed.Goals as goal

pub returns-in-Some : goal.returns-in-Some
returns-in-Some c =
    let text = c.args.text.now in
    let at = c.in-Some.ensures.cases in (
      joined text c.in-Some.lines.now c.in-Some.rest.now at.0 at.1 (drop_at_char 10 text at.0 at.1 at.2.1 (omega arith)) at.3 at.4,
      has_none (drop at.1 text) c.in-Some.rest.now (λ k. NoCharPasses-char 10 (drop at.1 text) k at.2.0 (omega arith)) at.4,
    )
