-- A greater word leaves the word as it is.
use Rattle.std.proofs.Common.{sym, subst, arith}
use Rattle.scalar_domain.specs.Scalar.{Within}
use Rattle.scalar_domain.proofs.Remainders.{left_by_greater}
use Rattle.scalar_domain.proofs.spans.Span.remainder.Goals as goal

pub returns-then-self-other : goal.returns-then-self-other
returns-then-self-other c = λ a b h k. subst (Within c.args.self) (sym (left_by_greater a b (omega arith))) h
