use Rattle.std.proofs.Common.{arith, drop, refl}
use Rattle.std.proofs.lemmas.Str.Pattern.{NoCharPasses-char, drop_at_char}
use Rattle.trace_front.proofs.LineFeeds.{has_none, joined}
use Rattle.trace_front.proofs.feeds.last_feed.Goals as goal

pub returns-in-Some : goal.returns-in-Some
returns-in-Some c =
    let text = c.args.text.now in
    let at = c.in-Some.ensures.cases in
    record {
      some = (
        joined text c.in-Some.lines.now c.in-Some.rest.now at.0 at.1 (drop_at_char 10 text at.0 at.1 at.2.1 (omega arith)) at.3 at.4,
        has_none (drop at.1 text) c.in-Some.rest.now (λ k. NoCharPasses-char 10 (drop at.1 text) k at.2.0 (omega arith)) at.4,
      );
      none = tt;
    }

pub returns-in-None : goal.returns-in-None
returns-in-None c =
    record {
      some = tt;
      none = has_none c.args.text.now c.args.text.now (λ k. NoCharPasses-char 10 c.args.text.now k c.in-None.ensures.cases (omega arith)) refl;
    }
