-- The freezes that a run holds: what is known of them by their names, and which number each name stands for.
use Rattle.std.specs.Prelude.{◌≡◌, ℕ, ◌<◌, ◌^◌, ◌==◌, Bool, true, false, not, List, [], ◌∷◌, ◌++◌, map, filter, find, Option, Some, None, ⊤, if◌then◌else◌}
use Rattle.std.specs.Option.{option_map}
use Rattle.check_register_kinds.specs.declared.freeze_name.FreezeName.{FreezeName}
use Rattle.check_register_kinds.specs.declared.freeze_name.FreezeName.TheVariants.{Start, Call}
use Rattle.check_register_kinds.specs.declared.held.Certainty.{Certainty}
use Rattle.check_register_kinds.specs.declared.held.Certainty.TheVariants.{Open, Sure}
use Rattle.check_register_kinds.specs.declared.held.HeldFreeze.{HeldFreeze}

-- both are one name
abbrev pub is_name : FreezeName → FreezeName → Bool
is_name Start Start = true
is_name Start (Call place) = false
is_name (Call place) Start = false
is_name (Call place) (Call other) = place == other

-- a freeze that may be 0
abbrev pub open_freeze : FreezeName → HeldFreeze
open_freeze name = record { name = name; certainty = Open }

-- how sure the freeze of that name is, where it is held
abbrev pub certainty_of : List HeldFreeze → FreezeName → Option Certainty
certainty_of held name = option_map (λ freeze. freeze.certainty) (find (λ freeze. is_name freeze.name name) held)

-- all but that one
abbrev pub without : List HeldFreeze → FreezeName → List HeldFreeze
without held name = filter (λ freeze. not (is_name freeze.name name)) held

-- the freeze, and sure not to be 0 where it has that name
abbrev pub made_sure : FreezeName → HeldFreeze → HeldFreeze
made_sure name freeze = if is_name freeze.name name then record freeze { certainty = Sure } else freeze

abbrev pub with_sure : List HeldFreeze → FreezeName → List HeldFreeze
with_sure held name = map (made_sure name) held

-- The number of each freeze that is held, by its name: 0 where the run got none. Other names stand for none.
abbrev pub FreezeNumbers : Type 0
FreezeNumbers = FreezeName → Option ℕ

-- where that name stands for this
abbrev pub renumbered : FreezeNumbers → FreezeName → Option ℕ → FreezeNumbers
renumbered numbers name number = λ other. if is_name other name then number else numbers other

-- at a run's start, with a freeze of that number, or with none as 0
abbrev pub numbers_at_start : ℕ → FreezeName → Option ℕ
numbers_at_start freeze Start = Some freeze
numbers_at_start freeze (Call place) = None

-- a freeze of that number, of which that is known
abbrev pub IsCertain : Certainty → ℕ → Type 0
IsCertain Open number = ⊤
IsCertain Sure number = 0 < number

-- a name that is held stands for a number of which so much is known, and one that is not for none
abbrev pub IsNumbered : Option Certainty → Option ℕ → Type 0
IsNumbered (Some certainty) o = (number : ℕ) × (o ≡ Some number) × IsCertain certainty number × (number < 2 ^ 32)
IsNumbered None o = o ≡ None

-- the number of a freeze, and none where it is 0
abbrev pub number_held : Option ℕ → List ℕ
number_held (Some number) = if number == 0 then [] else number ∷ []
number_held None = []

-- the numbers of all, in their order
abbrev pub numbers_held : FreezeNumbers → List HeldFreeze → List ℕ
numbers_held numbers [] = []
numbers_held numbers (freeze ∷ freezes) = number_held (numbers freeze.name) ++ numbers_held numbers freezes

-- what is held, where names stand for these numbers
pub record AreHeld (numbers : FreezeNumbers) (held : List HeldFreeze) (run_holds : List ℕ) : Type 0 where
  pub known : (name : FreezeName) → IsNumbered (certainty_of held name) (numbers name)
  -- no number above 0 has two names
  pub apart : (a b : FreezeName) (number : ℕ) → 0 < number → numbers a ≡ Some number → numbers b ≡ Some number → a ≡ b
  pub are : run_holds ≡ numbers_held numbers held
