-- What was put into an inbox and taken from it, and what a pass knows of that.
use Rattle.std.specs.Prelude.{◌≡◌, ℕ, ◌+◌, ◌<◌, ◌≤◌, ◌==◌, if◌then◌else◌, List, [], ◌∷◌, ◌++◌, map, length, All, Contains}
use Rattle.ccb.specs.Completion.{Outcome}
use Rattle.inbox.specs.declared.account.Entry.{Entry}
use Rattle.inbox.specs.declared.account.Shape.{Shape}
use Rattle.inbox.specs.declared.account.Seen.{Seen}
use Rattle.inbox.specs.declared.account.Account.{Account}

-- all that was put, in queue order, each with its pass; all that was taken, in the order of the takes; what is left, the oldest first
pub record InboxLists : Type 0 where
  pub put : List Entry
  pub taken : List Entry
  pub left : List Outcome

abbrev pub entry : ℕ → Outcome → Entry
entry pass completion = record { pass = pass; completion = completion }

-- the completions without their passes
abbrev pub completions : List Entry → List Outcome
completions entries = map (λ e. e.completion) entries

-- the completions of one pass
abbrev pub by_pass : ℕ → List Entry → List Outcome
by_pass n [] = []
by_pass n (e ∷ es) = if e.pass == n then e.completion ∷ by_pass n es else by_pass n es

abbrev pub StartsWith : {X : Type 0} → List X → List X → Type 0
StartsWith {X} all seen = (more : List X) × (all ≡ seen ++ more)

-- the lists begin with what was seen of them
abbrev pub BeginWith : InboxLists → Seen → Type 0
BeginWith lists seen = StartsWith lists.put seen.put × StartsWith lists.taken seen.taken

-- what a pass can tell: what it saw itself, and what it was told
abbrev pub known_by : Account → List Seen
known_by a = record { put = a.seen_put; taken = a.seen_taken } ∷ a.told

-- The lists of an inbox of this shape at some moment. What was taken is a beginning of what was put, and the rest is left
pub record AreLists (shape : Shape) (lists : InboxLists) : Type 0 where
  pub in_order : completions lists.put ≡ completions lists.taken ++ lists.left
  pub room : length lists.left ≤ shape.capacity
  pub putters : All (λ e. e.pass < shape.puts) lists.put
  pub takers : All (λ e. (shape.puts ≤ e.pass) × (e.pass < shape.puts + shape.takes)) lists.taken

-- The lists hold what the pass put and took, each once, in its order, and nothing else of it. They begin with what it had seen, and with what it was told
pub record Agrees (lists : InboxLists) (a : Account) : Type 0 where
  pub own_put : by_pass a.number lists.put ≡ a.put
  pub own_taken : by_pass a.number lists.taken ≡ a.taken
  pub seen_put : StartsWith lists.put a.seen_put
  pub seen_taken : StartsWith lists.taken a.seen_taken
  pub told : All (BeginWith lists) a.told

-- at some moment the inbox held n completions
pub record Held (a : Account) (n : ℕ) : Type 0 where
  pub lists : InboxLists
  pub are_lists : AreLists a.shape lists
  pub agrees : Agrees lists a
  pub held : length lists.left ≡ n

-- the completion joined what was put, at the end
pub record IsPut (before after : Account) (completion : Outcome) : Type 0 where
  pub lists : InboxLists
  pub are_lists : AreLists before.shape lists
  pub agrees : Agrees lists before
  pub after_is : after ≡ record before {
    put = before.put ++ completion ∷ [];
    seen_put = lists.put ++ entry before.number completion ∷ [];
    seen_taken = lists.taken;
  }

-- the completion was the oldest of what was left, and joined what was taken
pub record Takes (before after : Account) (completion : Outcome) : Type 0 where
  pub lists : InboxLists
  pub rest : List Outcome
  pub are_lists : AreLists before.shape lists
  pub agrees : Agrees lists before
  pub oldest : lists.left ≡ completion ∷ rest
  pub after_is : after ≡ record before {
    taken = before.taken ++ completion ∷ [];
    seen_put = lists.put;
    seen_taken = lists.taken ++ entry before.number completion ∷ [];
  }

-- the account, with this told beside what it was told before
abbrev pub learned : Account → List Seen → Account
learned a told = record a { told = told ++ a.told }

-- The lists at the end, by the accounts of all passes: each agrees with them, and no pass is missing
pub record Settles (shape : Shape) (accounts : List Account) (left : List Outcome) : Type 0 where
  pub lists : InboxLists
  pub are_lists : AreLists shape lists
  pub agree : All (Agrees lists) accounts
  pub complete : (n : ℕ) → n < shape.puts + shape.takes → Contains (map (λ a. a.number) accounts) n
  pub left_is : lists.left ≡ left
