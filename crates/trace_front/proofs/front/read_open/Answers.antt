use Rattle.std.proofs.Common.{List, ℕ, ◌∷◌, ◌++◌, ◌∙◌, subst}
use Rattle.whole_trace.specs.WholeText.{SaysWhole}
use Rattle.trace_front.proofs.front.read_open.Goals as goal

pub returns : goal.returns
returns c = c.front_of.ensures (c.args.lines.now ++ 10 ∷ c.args.last.now) (subst (λ (t : List ℕ). SaysWhole t c.read.result) (c.as_str.ensures.value ∙ c.in-Ok.ensures) c.read.ensures.said)
