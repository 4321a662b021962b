-- What a log shows of a pass, and the slots of its checks.
use Rattle.std.specs.Prelude.{◌≡◌, ℕ, ◌^◌, ◌-◌, Bool, List, [], ◌∷◌, ◌++◌, Option, Some, None, slice_get}
use Rattle.explain_path.specs.declared.log.Sighting.{Sighting}
use Rattle.explain_path.specs.declared.sketch.Sketch.{Sketch}

-- the checks in their order, and whether memory was refused
pub record LogState : Type 0 where
  pub sightings : List Sighting
  pub lacks_memory : Bool

-- where no check was made there is no slot
abbrev pub slot_of : Option Sighting → ℕ
slot_of None = 2 ^ 64 - 1
slot_of (Some sighting) = sighting.slot

-- the slot of the check of that number
abbrev pub slot_at : List Sighting → ℕ → ℕ
slot_at sightings check = slot_of (slice_get sightings check)

-- that check is the last
abbrev pub EndsAt : ℕ → List ℕ → Type 0
EndsAt check checks = (before : List ℕ) × (checks ≡ before ++ check ∷ [])

-- both say the same of the freezes held and of the CCB's disposal, as ways have to that join
pub record AgreeAt (one other : Sketch) : Type 0 where
  pub held : one.held ≡ other.held
  pub disposed : one.disposed ≡ other.disposed
