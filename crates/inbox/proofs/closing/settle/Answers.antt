-- The pass that took in all others has the accounts of all passes, which are of the inbox's shape.
use Rattle.std.proofs.Common.{List, ◌+◌, ◌<◌, length, sym, ap, ◌∙◌, subst, arith}
use Rattle.inbox.specs.declared.account.Account.{Account}
use Rattle.inbox.specs.declared.account.Shape.{Shape}
use Rattle.inbox.specs.InboxLists.{Settles}
use Rattle.inbox.specs.Seats.{known}
use Rattle.inbox.proofs.Passing.{all_taken_in}
use Rattle.inbox.proofs.closing.settle.Goals as goal

pub empty-requires-clause-all : goal.empty-requires-clause-all
empty-requires-clause-all g c =
    let last = known c.gather-last.result in
    let some : 0 < length c.args.puts.items = omega (arith, c.requires.all.puts, ap (λ s. s.shape.puts) c.inbox.view_is) in
    let whole = all_taken_in c.args.inbox last.account last.back c.args.puts.items c.args.takes.items some c.requires.puts c.requires.all c.gather-last.ensures.holds.1 in
    whole.1 ∙ ap (λ s. s.puts + s.takes) (sym whole.0)

pub empty-requires-clause-room : goal.empty-requires-clause-room
empty-requires-clause-room g c =
    let last = known c.gather-last.result in
    let some : 0 < length c.args.puts.items = omega (arith, c.requires.all.puts, ap (λ s. s.shape.puts) c.inbox.view_is) in
    let whole = all_taken_in c.args.inbox last.account last.back c.args.puts.items c.args.takes.items some c.requires.puts c.requires.all c.gather-last.ensures.holds.1 in
    (c.requires.room.0, omega (arith, c.requires.room.1, ap (λ s. s.capacity) whole.0))

pub returns : goal.returns
returns g c =
    let last = known c.gather-last.result in
    let some : 0 < length c.args.puts.items = omega (arith, c.requires.all.puts, ap (λ s. s.shape.puts) c.inbox.view_is) in
    let whole = all_taken_in c.args.inbox last.account last.back c.args.puts.items c.args.takes.items some c.requires.puts c.requires.all c.gather-last.ensures.holds.1 in
    subst (λ (y : Shape × List Account). Settles y.0 y.1 c.empty.result.items) (λ i. (whole.0 i, c.gather-last.ensures.holds.1 i)) c.empty.ensures
