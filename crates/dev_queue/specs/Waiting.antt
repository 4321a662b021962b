-- What a list of waiting CCBs says: which of them starts first, and the list with one more or one fewer.
use Rattle.std.specs.Prelude.{◌≡◌, ℕ, ◌+◌, ◌≤◌, ◌↔◌, Bool, not, ◌==◌, nat_lt, List, [], ◌∷◌, count_by, filter, All, Contains, if◌then◌else◌}
use Rattle.std.specs.List.{list_any}
use Rattle.ccb.specs.declared.CcbId.{CcbId}
use Rattle.dev_queue.specs.declared.waiting_ccb.WaitingCcb.{WaitingCcb}

-- a CCB starts no later than another: its priority number is not above the other's, and where both have the same,
-- its CCB number is not above the other's
abbrev pub StartsFirst : WaitingCcb → WaitingCcb → Type 0
StartsFirst pair other = (pair.priority ≤ other.priority) × (pair.priority ≡ other.priority → pair.number.0 ≤ other.number.0)

-- the least of these: one of them that starts no later than any
pub record IsLeast (pairs : List WaitingCcb) (pair : WaitingCcb) : Type 0 where
  pub waits : Contains pairs pair
  pub first : All (StartsFirst pair) pairs

-- there is one least at most
abbrev pub LeastIsOne : Type 0
LeastIsOne = (pairs : List WaitingCcb) (one other : WaitingCcb) → IsLeast pairs one → IsLeast pairs other → one ≡ other

-- the CCB of this number is the least
abbrev pub IsLeastNumber : List WaitingCcb → CcbId → Type 0
IsLeastNumber pairs number = (priority : ℕ) × IsLeast pairs (record { priority = priority; number = number })

-- a CCB of this number waits
abbrev pub waits : CcbId → List WaitingCcb → Bool
waits number pairs = list_any (λ pair. pair.number.0 == number.0) pairs

-- with one CCB more, before those of higher numbers
abbrev pub with_pair : WaitingCcb → List WaitingCcb → List WaitingCcb
with_pair pair [] = pair ∷ []
with_pair pair (other ∷ others) =
    if nat_lt pair.number.0 other.number.0 then pair ∷ other ∷ others else other ∷ with_pair pair others

-- these in the order of their numbers
abbrev pub in_order : List WaitingCcb → List WaitingCcb
in_order [] = []
in_order (pair ∷ others) = with_pair pair (in_order others)

-- no two of these have the same number
abbrev pub AreApart : List WaitingCcb → Type 0
AreApart pairs = (number : ℕ) → count_by (λ pair. pair.number.0 == number) pairs ≤ 1

-- each number is at least `low` and above the one before
abbrev pub AreInOrder : ℕ → List WaitingCcb → Type 0
AreInOrder low [] = Unit {0}
AreInOrder low (pair ∷ others) = (low ≤ pair.number.0) × AreInOrder (pair.number.0 + 1) others

-- these in the order of their numbers are the same ones, and their numbers rise
abbrev pub IsByNumber : Type 0
IsByNumber =
    (pairs : List WaitingCcb) → AreApart pairs →
    AreInOrder 0 (in_order pairs) × ((pair : WaitingCcb) → Contains pairs pair ↔ Contains (in_order pairs) pair)

-- all but the CCB of this number
abbrev pub without : CcbId → List WaitingCcb → List WaitingCcb
without number pairs = filter (λ pair. not (pair.number.0 == number.0)) pairs
