-- The rule of the cell: there is one history, of which each seat knows a beginning, and the cell shows its sums. The keeper, each
-- caller, each watch and each receipt has a seat; a caller's part may be in the keeper's hands.
use Rattle.std.specs.Prelude.{◌≡◌, ℕ, ◌+◌, ◌<◌, ◌≤◌, ◌^◌, true, false, List, [], ◌∷◌, ◌++◌, length, All, slice_index}
use mathlib.Core.Option.{some}
use lib.ListN.{get_elem?}
use Rattle.world_calls.specs.declared.record.Record.{Record}
use Rattle.world_calls.specs.declared.totals.Totals.{Totals}
use Rattle.world.specs.World.{Setup}
use Rattle.world.specs.TotalsOf.{TotalsOf}
use Rattle.monitor.specs.declared.knowledge.Pair.{Pair}
use Rattle.monitor.specs.declared.knowledge.View.{View}
use Rattle.monitor.specs.LegalHistory.{all_by, unshared, records, made_by, StartsWith, LegalHistory}
use Rattle.monitor.specs.Nameless.{no_setup}
use Rattle.monitor.specs.Telling.{KeeperState, CallerState, WatchState}

-- a seat that is used up
abbrev pub nothing : View
nothing = record { opens = false; setup = no_setup; keeps = false; log = []; given = 0; calls = false; number = 0; mine = []; shown = false; seen = []; told = [] }

-- the seat with which the cell is made
abbrev pub opening : View
opening = record nothing { opens = true }

-- the keeper's seat, of a history that begins with these records
abbrev pub keeping : Setup → List Record → View
keeping setup begun = record nothing { setup = setup; keeps = true; log = unshared begun }

-- the caller's part of a view, the view without it, and another view with it
abbrev pub part : View → View
part v = record nothing { setup = v.setup; calls = v.calls; number = v.number; mine = v.mine; seen = v.seen; told = v.told }

abbrev pub without_part : View → View
without_part v = record v { calls = false; number = 0; mine = []; seen = []; told = [] }

abbrev pub with_part : View → View → View
with_part v w = record v { setup = w.setup; calls = w.calls; number = w.number; mine = w.mine; seen = w.seen; told = w.told }

-- one caller more, and its part
abbrev pub with_caller : View → View
with_caller v = record v { given = v.given + 1 }

abbrev pub new_part : View → View
new_part v = record nothing { setup = v.setup; calls = true; number = v.given + 1; seen = v.log }

-- a watch's seat
abbrev pub watching : View → View
watching v = record nothing { setup = v.setup; shown = true; seen = v.log }

-- a receipt's seat, and what one who learns it then knows
abbrev pub receipt : View → View
receipt v = record nothing { told = v.seen ∷ v.told }

abbrev pub informed : View → View → View
informed v w = record v { told = w.told ++ v.told }

-- what contracts see
abbrev pub keeper_state : View → KeeperState
keeper_state v = record { history = v.log; callers = v.given }

abbrev pub caller_state : View → CallerState
caller_state v = record { number = v.number; mine = v.mine; seen = v.seen; told = v.told }

abbrev pub watch_state : View → WatchState
watch_state v = record { seen = v.seen; told = v.told }

pub record IsKeeper (setup : Setup) (v : View) : Type 0 where
  pub keeps : v.keeps ≡ true
  pub closed : v.opens ≡ false
  pub setup_is : v.setup ≡ setup

pub record IsCaller (setup : Setup) (v : View) : Type 0 where
  pub calls : v.calls ≡ true
  pub closed : v.opens ≡ false
  pub setup_is : v.setup ≡ setup

pub record IsWatch (setup : Setup) (v : View) : Type 0 where
  pub shown : v.shown ≡ true
  pub closed : v.opens ≡ false
  pub setup_is : v.setup ≡ setup

-- the sums of a history
pub record HasSums (setup : Setup) (log : List Pair) (totals : Totals) : Type 0 where
  pub sums : TotalsOf setup (records log) totals

-- the words say these sums, of which all but the number of records are short
pub record Say (words : List ℕ) (totals : Totals) : Type 0 where
  pub history : slice_index words 0 ≡ totals.history
  pub frozen : slice_index words 1 ≡ totals.frozen
  pub active : slice_index words 2 ≡ totals.active
  pub runs : slice_index words 3 ≡ totals.runs
  pub short : (totals.frozen < 2 ^ 32) × (totals.active < 2 ^ 32) × (totals.runs < 2 ^ 32)

-- what the seats know of: the history with its setup and sums, how many callers there are, and at which seats the keeper and
-- each caller's part are
pub record Whole : Type 0 where
  pub setup : Setup
  pub log : List Pair
  pub totals : Totals
  pub given : ℕ
  pub keeper : ℕ
  pub place : ℕ → ℕ

-- what a seat knows is so
pub record ViewHolds (words : List ℕ) (count : ℕ) (whole : Whole) (seat : ℕ) (v : View) : Type 0 where
  pub alone : v.opens ≡ true → count ≡ 1
  pub keeps : v.keeps ≡ true → (seat ≡ whole.keeper) × (v.setup ≡ whole.setup) × (v.log ≡ whole.log) × (v.given ≡ whole.given)
  pub calls : v.calls ≡ true → (whole.place v.number ≡ seat) × (v.setup ≡ whole.setup) × (v.number ≤ whole.given) × (made_by v.number whole.log ≡ v.mine)
  pub shows : v.shown ≡ true → (v.setup ≡ whole.setup) × Say words whole.totals
  pub seen : StartsWith whole.log v.seen
  pub told : All (StartsWith whole.log) v.told

-- the rule
pub record Kept (words : List ℕ) (views : List View) : Type 0 where
  pub whole : Whole
  pub sums : HasSums whole.setup whole.log whole.totals
  pub numbered : All (λ p. p.caller ≤ whole.given) whole.log
  pub each : (seat : ℕ) (v : View) → get_elem? views seat ≡ some v → ViewHolds words (length views) whole seat v

-- the keeper's view with a caller's part in it, once the caller's records have joined the history
abbrev pub published : List Record → View → View
published made v = record v {
  log = v.log ++ all_by v.number made;
  mine = v.mine ++ made;
  shown = true;
  seen = v.log ++ all_by v.number made;
  told = [];
}

-- the history agrees with a view that has a caller's part
pub record AgreesWith (log : List Pair) (v : View) : Type 0 where
  pub began : StartsWith log v.seen
  pub heard : All (StartsWith log) v.told
  pub own : made_by v.number log ≡ v.mine

-- what a step tells: records join the history and the sums are shown
pub record Extends (v : View) (made : List Record) (w : View) : Type 0 where
  pub after : w ≡ published made v
  pub agreed : AgreesWith v.log v
  pub own : made_by v.number (v.log ++ all_by v.number made) ≡ v.mine ++ made
  pub legal : LegalHistory v.setup (v.log ++ all_by v.number made)

-- the sums are shown again
abbrev pub ShownAgain : View → List ℕ → List ℕ → View → Type 0
ShownAgain v before after w = w ≡ record v { shown = true }

-- the caller whose part is in the keeper's hands has seen the history
pub record HasLooked (v : View) (w : View) : Type 0 where
  pub after : w ≡ record v { seen = v.log; told = [] }
  pub agreed : AgreesWith v.log v
  pub legal : LegalHistory v.setup v.log

-- a watch has seen the history whose sums the words are
pub record HasRead (v : View) (words : List ℕ) (w : View) : Type 0 where
  pub after : w ≡ record v { seen = w.seen; told = [] }
  pub began : StartsWith w.seen v.seen
  pub heard : All (StartsWith w.seen) v.told
  pub totals : Totals
  pub said : Say words totals
  pub sums : HasSums v.setup w.seen totals
