-- The history of an engine that is shared: who made which record, and what it is to be legal.
use Rattle.std.specs.Prelude.{◌≡◌, ℕ, ◌==◌, if◌then◌else◌, List, [], ◌∷◌, ◌++◌, map}
use Rattle.world_calls.specs.declared.record.Record.{Record}
use Rattle.world.specs.World.{Setup, World}
use Rattle.world.specs.WorldRun.{WorldRun}
use Rattle.world.specs.Flat.{flat}
use Rattle.monitor.specs.declared.knowledge.Pair.{Pair}

abbrev pub pair : ℕ → Record → Pair
pair caller made = record { caller = caller; made = made }

-- records that one caller made
abbrev pub all_by : ℕ → List Record → List Pair
all_by caller made = map (λ it. pair caller it) made

-- records that stood there before the engine was shared: no caller made them
abbrev pub unshared : List Record → List Pair
unshared before = all_by 0 before

-- the records alone
abbrev pub records : List Pair → List Record
records history = map (λ p. p.made) history

-- the records that one caller made, in their order
abbrev pub made_by : ℕ → List Pair → List Record
made_by caller [] = []
made_by caller (p ∷ ps) = if p.caller == caller then p.made ∷ made_by caller ps else made_by caller ps

abbrev pub StartsWith : List Pair → List Pair → Type 0
StartsWith history seen = (more : List Pair) × (history ≡ seen ++ more)

-- records that are a run of the world, with the replies that they tell
abbrev pub AreLegal : Setup → List Record → Type 0
AreLegal setup made = (world : World) × WorldRun setup (flat made) world

abbrev pub LegalHistory : Setup → List Pair → Type 0
LegalHistory setup history = AreLegal setup (records history)
