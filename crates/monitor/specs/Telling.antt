-- What contracts see of the parts of a monitor, and what their calls tell. A history is the one that all of them share, at some
-- moment.
use Rattle.std.specs.Prelude.{◌≡◌, ℕ, ◌+◌, List, [], ◌∷◌, ◌++◌, All}
use Rattle.world_calls.specs.declared.record.Record.{Record}
use Rattle.world_calls.specs.declared.totals.Totals.{Totals}
use Rattle.world.specs.World.{Setup}
use Rattle.world.specs.TotalsOf.{TotalsOf}
use Rattle.monitor.specs.declared.knowledge.Pair.{Pair}
use Rattle.monitor.specs.LegalHistory.{all_by, records, made_by, StartsWith, LegalHistory}

-- the keeper knows the whole history, and how many callers there are
pub record KeeperState : Type 0 where
  pub history : List Pair
  pub callers : ℕ

-- A caller: its number, the records that it made, in its order, the history that it has seen, and what it was told since of
-- what others have seen
pub record CallerState : Type 0 where
  pub number : ℕ
  pub mine : List Record
  pub seen : List Pair
  pub told : List (List Pair)

-- a watch: the history that it has seen, and what it was told since of what callers have seen
pub record WatchState : Type 0 where
  pub seen : List Pair
  pub told : List (List Pair)

-- the next caller, which has made nothing, and has seen the history so far
abbrev pub new_caller : KeeperState → CallerState
new_caller keeper = record { number = keeper.callers + 1; mine = []; seen = keeper.history; told = [] }

-- a watch that has seen the history so far
abbrev pub new_watch : KeeperState → WatchState
new_watch keeper = record { seen = keeper.history; told = [] }

-- what a caller can tell: what it has seen itself, and what it was told
abbrev pub known : CallerState → List (List Pair)
known caller = caller.seen ∷ caller.told

-- the history begins with all that the caller has seen and was told of, and of the caller's records it has just those that it
-- made, in its order, each once
pub record Agrees (history : List Pair) (caller : CallerState) : Type 0 where
  pub began : StartsWith history caller.seen
  pub heard : All (StartsWith history) caller.told
  pub own : made_by caller.number history ≡ caller.mine

-- the caller has seen this history, and nothing else has changed
abbrev pub having_seen : List Pair → CallerState → CallerState
having_seen history caller = record caller { seen = history; told = [] }

-- the caller has made these records, and has seen the history to which they were added
abbrev pub having_made : List Pair → List Record → CallerState → CallerState
having_made history made caller = record caller {
  seen = history ++ all_by caller.number made;
  told = [];
  mine = caller.mine ++ made;
}

-- A caller's records joined the history, at its end, one after the other: the history with them is legal, and both agree with the
-- caller
pub record Joins (setup : Setup) (history : List Pair) (before : CallerState) (made : List Record) (after : CallerState) : Type 0 where
  pub agreed : Agrees history before
  pub after_is : after ≡ having_made history made before
  pub agrees : Agrees after.seen after
  pub legal : LegalHistory setup after.seen

-- the caller looked at the history, which is legal
pub record Looks (setup : Setup) (history : List Pair) (before : CallerState) (after : CallerState) : Type 0 where
  pub agreed : Agrees history before
  pub after_is : after ≡ having_seen history before
  pub legal : LegalHistory setup history

-- a watch read the sums of a legal history, which begins with all that it had seen and was told of
pub record Reads (setup : Setup) (before : WatchState) (totals : Totals) (after : WatchState) : Type 0 where
  pub began : StartsWith after.seen before.seen
  pub heard : All (StartsWith after.seen) before.told
  pub none_told : after.told ≡ []
  pub sums : TotalsOf setup (records after.seen) totals
