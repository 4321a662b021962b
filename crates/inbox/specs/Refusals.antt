-- What it says of an inbox that a pass was refused.
use Rattle.std.specs.Prelude.{◌≡◌, ◌+◌, ◌<◌, ◌≤◌, length, All}
use Rattle.ccb.specs.Completion.{Outcome}
use Rattle.inbox.specs.declared.account.Account.{Account}
use Rattle.inbox.specs.declared.account.Shape.{Shape}
use Rattle.inbox.specs.InboxLists.{Held, IsPut, Takes, StartsWith, completions, known_by, learned}
use Rattle.inbox.specs.Seats.{new_account}

-- the inbox was empty: all puts that the pass knows of were taken
abbrev pub NoneMeansTaken : Type 0
NoneMeansTaken = (a : Account) (h : Held a 0) → All (λ seen. StartsWith (completions h.lists.taken) (completions seen.put)) (known_by a)

-- the inbox was full: as many were put as there is room for, and one more for each take that the pass knows of
abbrev pub RefusedMeansUsed : Type 0
RefusedMeansUsed = (a : Account) (h : Held a a.shape.capacity) → All (λ seen. length seen.taken + a.shape.capacity ≤ length h.lists.put) (known_by a)

-- the pass took itself all that it knows to be put, in that order
abbrev pub TookAllKnown : Account → Type 0
TookAllKnown a = All (λ seen. StartsWith a.taken (completions seen.put)) (known_by a)

-- the pass put itself as many as there is room for, and one more for each take that it knows of
abbrev pub UsedAllKnown : Account → Type 0
UsedAllKnown a = All (λ seen. length seen.taken + a.shape.capacity ≤ length a.put) (known_by a)

-- With one pass of each kind, both new: the put is not refused, and once the take pass has learned of it, it takes this very completion
abbrev pub ComesOut : Type 0
ComesOut = (shape : Shape) → shape.puts ≡ 1 → shape.takes ≡ 1 → 0 < shape.capacity → (¬ Held (new_account shape 0) shape.capacity)
    × ((p : Account) (c : Outcome) → IsPut (new_account shape 0) p c
    → (¬ Held (learned (new_account shape 1) (known_by p)) 0) × ((t : Account) (x : Outcome) → Takes (learned (new_account shape 1) (known_by p)) t x → x ≡ c))
