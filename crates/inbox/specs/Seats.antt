-- The rule of the inbox's queue, over what it holds and what each seat knows. Seat 0 makes the passes, and each pass and each receipt has a seat of its own.
use Rattle.std.specs.Prelude.{◌≡◌, ℕ, ◌+◌, ◌<◌, ◌≤◌, List, [], ◌∷◌, ◌++◌, map, length, All, Contains}
use Rattle.std.specs.List.{sum_by}
use mathlib.Core.Option.{some}
use lib.ListN.{get_elem?}
use Rattle.crossbeam_queue.specs.Passes.{Pass, view}
use Rattle.ccb.specs.Completion.{Outcome}
use Rattle.inbox.specs.declared.account.Entry.{Entry}
use Rattle.inbox.specs.declared.account.Shape.{Shape}
use Rattle.inbox.specs.declared.account.Seen.{Seen}
use Rattle.inbox.specs.declared.account.Account.{Account}
use Rattle.inbox.specs.declared.account.View.{View}
use Rattle.inbox.specs.declared.account.Role.{Role}
use Rattle.inbox.specs.declared.account.Role.TheVariants.{Opening, Keeper, Holder, Teller, Spent}
use Rattle.inbox.specs.InboxLists.{InboxLists, AreLists, Agrees, BeginWith}

-- what there is of an inbox beside what its queue holds: how many passes were made, the seat of each, all that was put and taken, and what was taken out at its closing
pub record Whole : Type 0 where
  pub shape : Shape
  pub made : ℕ
  pub place : ℕ → ℕ
  pub put : List Entry
  pub taken : List Entry
  pub rest : List Outcome

abbrev pub lists_of : Whole → List Outcome → InboxLists
lists_of whole items = record { put = whole.put; taken = whole.taken; left = whole.rest ++ items }

abbrev pub no_shape : Shape
no_shape = record { capacity = 0; puts = 0; takes = 0 }

-- the account of a pass that has done and seen nothing, and was told nothing
abbrev pub new_account : Shape → ℕ → Account
new_account shape n = record { shape = shape; number = n; put = []; taken = []; seen_put = []; seen_taken = []; told = [] }

abbrev pub opening : View
opening = record { role = Opening; made = 0; account = new_account no_shape 0; back = []; rest = [] }

abbrev pub spent : View
spent = record opening { role = Spent }

-- so many passes were made
abbrev pub keeping : Shape → ℕ → View
keeping shape made = record opening { role = Keeper; made = made; account = new_account shape 0 }

-- a pass, with those that it took in, and with what it took out at the closing
abbrev pub holding : Account → List Account → List Outcome → View
holding account back rest = record opening { role = Holder; account = account; back = back; rest = rest }

-- a receipt, which tells this
abbrev pub telling : List Seen → View
telling told = record opening { role = Teller; account = record (new_account no_shape 0) { told = told } }

-- what a seat knows
abbrev pub known : Pass Outcome View → View
known seat = view seat

-- a pass's seat, with the accounts of it and of those that it took in, and what it took out
abbrev pub HoldsAll : View → List Account → List Outcome → Type 0
HoldsAll v accounts rest = (v ≡ holding v.account v.back rest) × (v.account ∷ v.back ≡ accounts)

-- how many passes a seat stands for
abbrev pub weight_as : Role → ℕ → ℕ
weight_as Opening n = 0
weight_as Keeper n = 0
weight_as Holder n = n + 1
weight_as Teller n = 0
weight_as Spent n = 0

abbrev pub weight : View → ℕ
weight v = weight_as v.role (length v.back)

abbrev pub numbers : List Account → List ℕ
numbers accounts = map (λ a. a.number) accounts

-- this seat is used up
abbrev pub IsBack : List View → ℕ → Type 0
IsBack views seat = (v : View) × (get_elem? views seat ≡ some v) × (v.role ≡ Spent)

-- what another pass knows of one that it took in
abbrev pub IsReturned : List View → Whole → InboxLists → Account → Type 0
IsReturned views whole lists a = (a.number < whole.made) × Agrees lists a × IsBack views (whole.place a.number)

-- what a seat knows is so
module _ (views : List View) (whole : Whole) (lists : InboxLists) (seat : ℕ) (v : View) where
  abbrev pub FitsAs : Role → Type 0
  FitsAs Opening = (seat ≡ 0) × (length views ≡ 1) × (whole.put ≡ []) × (whole.taken ≡ []) × (whole.rest ≡ [])
  FitsAs Keeper = (seat ≡ 0) × (v.made ≡ whole.made) × (v.account.shape ≡ whole.shape) × (whole.made < whole.shape.puts + whole.shape.takes → whole.rest ≡ [])
  FitsAs Holder = (seat ≡ whole.place v.account.number) × (v.account.number < whole.made) × (v.account.shape ≡ whole.shape) × (v.rest ≡ whole.rest) × Agrees lists v.account × All (IsReturned views whole lists) v.back
  FitsAs Teller = All (BeginWith lists) v.account.told
  FitsAs Spent = Unit {0}

  abbrev pub Fits : Type 0
  Fits = FitsAs v.role

-- a pass that is out is the pass n, or took it in
abbrev pub IsAccounted : List View → ℕ → Type 0
IsAccounted views n = (seat : ℕ) × (v : View) × (get_elem? views seat ≡ some v) × (v.role ≡ Holder) × Contains (numbers (v.account ∷ v.back)) n

-- what a pass learns of the items in the queue
pub record Knows (a : Account) (items : List Outcome) : Type 0 where
  pub lists : InboxLists
  pub are_lists : AreLists a.shape lists
  pub agrees : Agrees lists a
  pub left_is : lists.left ≡ items

-- the rule
pub record Kept (items : List Outcome) (views : List View) : Type 0 where
  pub whole : Whole
  pub are_lists : AreLists whole.shape (lists_of whole items)
  pub few : whole.made ≤ whole.shape.puts + whole.shape.takes
  pub put_by : All (λ e. e.pass < whole.made) whole.put
  pub taken_by : All (λ e. e.pass < whole.made) whole.taken
  pub counted : sum_by weight views ≡ whole.made
  pub accounted : (n : ℕ) → n < whole.made → IsAccounted views n
  pub each : (seat : ℕ) (v : View) → get_elem? views seat ≡ some v → Fits views whole (lists_of whole items) seat v
