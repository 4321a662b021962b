-- A take keeps the rule, since the pass is one that may take, and where it is the only one, it took all that it knows of.
use Rattle.std.proofs.Common.{◌≡◌, ap, ◌∙◌, subst, IfNone}
use Rattle.inbox.specs.Refusals.{TookAllKnown}
use Rattle.inbox.specs.Seats.{known}
use Rattle.inbox.proofs.Refusing.{took_all}
use Rattle.inbox.proofs.Steps.{takes, learns}
use Rattle.inbox.proofs.inbox.Inbox.take.Goals as goal

pub pop_as-requires-clause-rule : goal.pop_as-requires-clause-rule
pop_as-requires-clause-rule g c = (takes _ _ c.pass.invariant.1 c.pass.invariant.2 c.pass.invariant.3, learns _ _ c.pass.invariant.1)

pub returns-clause-lone : goal.returns-clause-lone
returns-clause-lone g c one =
    let seat = c.pass.inside.seat in
    let same : (known seat).account ≡ c.args.pass.now.account = ap (λ p. p.account) c.pass.view_is in
    let lone : (known seat).account.shape.takes ≡ 1 = ap (λ a. a.shape.takes) same ∙ ap (λ s. s.takes) c.requires.shape ∙ one in
    subst (λ a. IfNone c.pop_as.result (TookAllKnown a)) same (took_all (known seat).account c.pop_as.result _ _ lone c.pass.invariant.2 c.pass.invariant.3 c.pop_as.ensures.rule)
