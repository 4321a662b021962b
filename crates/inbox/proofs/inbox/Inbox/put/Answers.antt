-- A put keeps the rule, since the pass is one of this inbox that may put, and where it is the only one, it used all room that it knows of.
use Rattle.std.proofs.Common.{◌≡◌, sym, ap, ◌∙◌, subst, OnErr}
use Rattle.inbox.specs.Refusals.{UsedAllKnown}
use Rattle.inbox.specs.Seats.{known}
use Rattle.inbox.proofs.Refusing.{used_all}
use Rattle.inbox.proofs.Steps.{puts, learns}
use Rattle.inbox.proofs.inbox.Inbox.put.Goals as goal

pub push_as-requires-clause-rule : goal.push_as-requires-clause-rule
push_as-requires-clause-rule g c = (
  puts _ _ c.pass.invariant.1 _ _ (ap (λ s. s.shape.capacity) c.self.view_is ∙ sym (ap (λ s. s.capacity) c.requires.shape) ∙ sym (ap (λ p. p.account.shape.capacity) c.pass.view_is)) c.pass.invariant.2,
  learns _ _ c.pass.invariant.1,
)

pub returns-clause-lone : goal.returns-clause-lone
returns-clause-lone g c one =
    let seat = c.pass.inside.seat in
    let same : (known seat).account ≡ c.args.pass.now.account = ap (λ p. p.account) c.pass.view_is in
    let lone : (known seat).account.shape.puts ≡ 1 = ap (λ a. a.shape.puts) same ∙ ap (λ s. s.puts) c.requires.shape ∙ one in
    let capacity = ap (λ s. s.shape.capacity) c.self.view_is ∙ sym (ap (λ s. s.capacity) c.requires.shape) ∙ sym (ap (λ a. a.shape.capacity) same) in
    subst (λ a. OnErr c.push_as.result (UsedAllKnown a)) same (used_all (known seat).account c.push_as.result _ _ _ _ capacity lone c.pass.invariant.2 c.push_as.ensures.rule)
