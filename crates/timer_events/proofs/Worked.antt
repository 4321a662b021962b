-- Worked values of the definitions.
use Rattle.std.proofs.Common.{◌≡◌, ℕ, List, [], ◌∷◌, false, refl, arith}
use Rattle.freeze_ledger.specs.declared.freeze.Holder.{Holder}
use Rattle.freeze_ledger.specs.declared.freeze.Holder.TheVariants.{Run, Timer, Guest}
use Rattle.freeze_ledger.specs.declared.freeze.Freeze.{Freeze}
use Rattle.ccb.specs.Places.{device}
use Rattle.freeze_ledger.specs.Freezes.{without}
use Rattle.freeze_ledger.specs.Deadlines.{all_behind}
use Rattle.timer_events.specs.Next.{some_due, IsNext}

abbrev freeze : ℕ → Holder → Freeze
freeze number holder = record { number = number; place = device 4; holder = holder }

-- two are due at 10 and one at 12, and a run and a guest stand between them
abbrev freezes : List Freeze
freezes = freeze 1 (Timer 12) ∷ freeze 2 (Run 3) ∷ freeze 3 (Timer 10) ∷ freeze 4 (Guest 0) ∷ freeze 6 (Timer 10) ∷ []

-- none is due before its time
none_yet : some_due 9 freezes ≡ false
none_yet = refl

-- at its time one is, the least time goes first, and of two at one time the lower number
first : IsNext 10 freezes 3
first = record { place = device 4; due = 10; held = refl; reached = omega arith; first = refl }

-- the other goes first at no time
not_first : all_behind 10 6 freezes ≡ false
not_first = refl

-- it is next when the first is gone
second : IsNext 10 (without 3 freezes) 6
second = record { place = device 4; due = 10; held = refl; reached = omega arith; first = refl }

-- the third is not due then, and is at any reading from its time on
third_not_yet : some_due 11 (without 6 (without 3 freezes)) ≡ false
third_not_yet = refl

third : IsNext 1000 (without 6 (without 3 freezes)) 1
third = record { place = device 4; due = 12; held = refl; reached = omega arith; first = refl }

-- runs and guests keep their freezes
never : some_due 1000 (without 1 (without 6 (without 3 freezes))) ≡ false
never = refl
