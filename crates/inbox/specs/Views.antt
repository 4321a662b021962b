-- What contracts see of an inbox and of its passes.
use Rattle.std.specs.Prelude.{◌≡◌, ℕ, zero, suc, ◌+◌, List, [], ◌∷◌, ◌++◌, length}
use Rattle.atomic_table.specs.Seated.{TableId}
use Rattle.inbox.specs.declared.account.Shape.{Shape}
use Rattle.inbox.specs.declared.account.Seen.{Seen}
use Rattle.inbox.specs.declared.account.Account.{Account}
use Rattle.inbox.specs.Seats.{new_account}

-- which queue it is, and what it was made with
pub record InboxView : Type 0 where
  pub queue : TableId
  pub shape : Shape

-- of which queue it is, and what it has done and seen, and was told
pub record PassView : Type 0 where
  pub queue : TableId
  pub account : Account

-- of which queue it is, and what it tells
pub record ReceiptView : Type 0 where
  pub queue : TableId
  pub told : List Seen

-- the pass is of this inbox
pub record IsOf (inbox : InboxView) (p : PassView) : Type 0 where
  pub queue : p.queue ≡ inbox.queue
  pub shape : p.account.shape ≡ inbox.shape

-- so many new passes of the inbox, numbered from n on, which have done and seen nothing, and were told nothing
abbrev pub new_passes : InboxView → ℕ → ℕ → List PassView
new_passes inbox n zero = []
new_passes inbox n (suc count) = new_passes inbox n count ++ record { queue = inbox.queue; account = new_account inbox.shape (n + count) } ∷ []

-- as many passes of each kind as were made
pub record AreAll (shape : Shape) (put_passes take_passes : List PassView) : Type 0 where
  pub puts : length put_passes ≡ shape.puts
  pub takes : length take_passes ≡ shape.takes
