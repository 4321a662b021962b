use Rattle.std.proofs.Common.{◌≡◌, ◌+◌, ℕ, suc, subst, arith, inr}
use Rattle.bpf_semantics.specs.Reached.{Reached}
use Rattle.interpreter.proofs.resuming.pass.Goals as goal

pub returns-clause-reached : goal.returns-clause-reached
returns-clause-reached c = λ program n reached at.
    let sum : suc n ≡ n + 1 = omega arith in
    subst (λ (k : ℕ). Reached program k c.pass.new.self) sum (c.args.machine.now, reached, inr (c.args.request.now, c.args.answer.now, at, (c.requires.allowed, c.pass.ensures)))
