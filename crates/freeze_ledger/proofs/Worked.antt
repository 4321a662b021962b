-- Worked values of the definitions.
use Rattle.std.proofs.Common.{◌≡◌, ℕ, [], ◌∷◌, true, false, refl}
use Rattle.freeze_ledger.specs.declared.freeze.Holder.{Holder}
use Rattle.freeze_ledger.specs.declared.freeze.Holder.TheVariants.{Run, Timer, Guest}
use Rattle.freeze_ledger.specs.declared.freeze.Freeze.{Freeze}
use Rattle.ccb.specs.Places.{device}
use Rattle.freeze_ledger.specs.Freezes.{frozen, handed_over, is_due}

abbrev freeze : ℕ → Holder → Freeze
freeze number holder = record { number = number; place = device 4; holder = holder }

-- one entry changes its holder, and the place has as many freezes as before
handed : handed_over 2 10 (freeze 1 (Run 3) ∷ freeze 2 (Run 3) ∷ freeze 5 (Guest 0) ∷ []) ≡ freeze 1 (Run 3) ∷ freeze 2 (Timer 10) ∷ freeze 5 (Guest 0) ∷ []
handed = refl

count : frozen (device 4) (handed_over 2 10 (freeze 1 (Run 3) ∷ freeze 2 (Run 3) ∷ [])) ≡ 2
count = refl

-- a timer is due at its time and not before, a guest never
at_its_time : is_due 10 (Timer 10) ≡ true
at_its_time = refl

not_yet : is_due 9 (Timer 10) ≡ false
not_yet = refl

never : is_due 10 (Guest 0) ≡ false
never = refl
