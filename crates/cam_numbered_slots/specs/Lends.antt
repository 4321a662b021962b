-- What the values are once a `&mut` to one of them is given back.
use Rattle.std.specs.Prelude.{ℕ}
use Rattle.std.specs.Borrow.{Lends, Fml, RattleType, MutBor}
use Rattle.cam_numbered_slots.specs.NumberedState.{NumberedState, with_value}
use Rattle.cam_numbered_slots.specs.contracts.numbered_slots.NumberedSlots.{the_row}

-- the value at the place is the last one written through the reference
abbrev pub lends_value : (T : RattleType) → MutBor (NumberedState T.Denot) → ℕ → MutBor T.Denot → Fml
lends_value T s place r = Lends (the_row T) T s r (with_value s.now place)
