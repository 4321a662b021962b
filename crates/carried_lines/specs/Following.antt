-- Which line may come directly after which, and what an `Order` knows of the lines that it took.
use Rattle.std.specs.Prelude.{◌≡◌, ℕ, ◌+◌, ◌==◌, ◌&&◌, ◌||◌, nat_lt, Bool, true, false, List, [], ◌∷◌, Option, Some, None}
use Rattle.world_calls.specs.declared.carried_line.CarriedLine.{CarriedLine}
use Rattle.world_calls.specs.declared.carried_line.CarriedLine.TheVariants as lines
use Rattle.carried_lines.specs.InOrder.{IsFront}
use Rattle.carried_lines.specs.declared.order.Order.{Order}

abbrev pub is_clock_next : CarriedLine → Bool
is_clock_next (lines.Numbers ccb freeze run) = true
is_clock_next last = false

abbrev pub is_queue_next : CarriedLine → ℕ → Bool
is_queue_next (lines.Clock reading) queue = queue == 0
is_queue_next (lines.Openings before openings) queue = queue == before + 1
is_queue_next last queue = false

abbrev pub is_word_next : CarriedLine → (table index : ℕ) → Bool
is_word_next (lines.Clock reading) table index = true
is_word_next (lines.Openings queue openings) table index = true
is_word_next (lines.Word before place word) table index = nat_lt before table || (before == table && nat_lt place index)
is_word_next last table index = false

abbrev pub is_ccb_next : CarriedLine → ℕ → Bool
is_ccb_next (lines.Numbers ccb freeze run) number = false
is_ccb_next (lines.Ccb before) number = nat_lt before.number.0 number
is_ccb_next (lines.Freeze before) number = false
is_ccb_next last number = true

abbrev pub is_freeze_next : CarriedLine → ℕ → Bool
is_freeze_next (lines.Numbers ccb freeze run) number = false
is_freeze_next (lines.Freeze before) number = nat_lt before.number number
is_freeze_next last number = true

-- the line may come directly after the last one
unfoldable pub is_next : CarriedLine → CarriedLine → Bool
is_next last (lines.Numbers ccb freeze run) = false
is_next last (lines.Clock reading) = is_clock_next last
is_next last (lines.Openings queue openings) = is_queue_next last queue
is_next last (lines.Word table index word) = nat_lt 0 word && is_word_next last table index
is_next last (lines.Ccb ccb) = is_ccb_next last ccb.number.0
is_next last (lines.Freeze freeze) = is_freeze_next last freeze.number

-- the line may come first
abbrev pub is_first : CarriedLine → Bool
is_first (lines.Numbers ccb freeze run) = true
is_first line = false

abbrev pub may_follow : Option CarriedLine → CarriedLine → Bool
may_follow None line = is_first line
may_follow (Some last) line = is_next last line

-- numbers and clock were there
abbrev pub is_complete : Option CarriedLine → Bool
is_complete None = false
is_complete (Some (lines.Numbers ccb freeze run)) = false
is_complete (Some last) = true

abbrev pub last_of : List CarriedLine → Option CarriedLine
last_of [] = None
last_of (line ∷ []) = Some line
last_of (line ∷ next ∷ more) = last_of (next ∷ more)

-- The order has taken these lines, with which a list in order begins, and knows the last of them.
pub record HasTaken (taken : List CarriedLine) (order : Order) : Type 0 where
  pub front : IsFront taken
  pub last : order.last ≡ last_of taken
