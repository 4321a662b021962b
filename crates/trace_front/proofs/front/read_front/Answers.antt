use Rattle.std.proofs.Common.{Bool, subst}
use Rattle.trace_front.specs.Front.{EndsWhole}
use Rattle.trace_front.proofs.Fronts.{says_open, says_torn, says_whole}
use Rattle.trace_front.proofs.front.read_front.Goals as goal

pub returns-then-ends_whole : goal.returns-then-ends_whole
returns-then-ends_whole c =
    says_whole c.args.text.now c.in-Some.lines.now c.in-Some.rest.now c.read_whole-then-ends_whole.result c.in-Some.ensures.some
    (subst (λ (b : Bool). EndsWhole b c.in-Some.lines.now c.in-Some.rest.now) c.if-ends_whole.true c.ends_whole.ensures) c.read_whole-then-ends_whole.ensures

pub returns-then-is_short : goal.returns-then-is_short
returns-then-is_short c =
    says_open c.args.text.now c.in-Some.lines.now c.in-Some.rest.now c.read_open.result c.in-Some.ensures.some
    (subst (λ (b : Bool). EndsWhole b c.in-Some.lines.now c.in-Some.rest.now) c.if-ends_whole.false c.ends_whole.ensures) (c.is_short.ensures.0 c.if-is_short.true) c.read_open.ensures

pub returns-else-is_short : goal.returns-else-is_short
returns-else-is_short c =
    says_torn c.args.text.now c.in-Some.lines.now c.in-Some.rest.now c.read_open-else-is_short.result c.in-Some.ensures.some
    (λ short. let bad = c.is_short.ensures.1 short in let not_so = c.if-is_short.false in cc (bad, not_so)) c.read_open-else-is_short.ensures
