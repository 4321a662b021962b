-- What is left is taken out under the rule, now that no other pass is out.
use Rattle.std.proofs.Common.{◌+◌, length, sym, ap, ◌∙◌}
use Rattle.inbox.specs.Seats.{known}
use Rattle.inbox.proofs.Ending.{empties, settles}
use Rattle.inbox.proofs.closing.empty.Goals as goal

pub pop_as-requires-clause-rule : goal.pop_as-requires-clause-rule
pop_as-requires-clause-rule g c =
    let seat = c.loop-completion.last.id in
    let v = known c.loop-completion.last in
    let holds = c.loop-completion.invariant.holds in
    let role = ap (λ v. v.role) holds in
    let all = ap (λ v. length v.back + 1) holds ∙ c.requires.all ∙ sym (ap (λ v. v.account.shape.puts + v.account.shape.takes) holds) in
    (empties seat v role all, settles seat v role all)
