-- Worked rows of clock readings, computed by the definitions themselves.
use Rattle.std.proofs.Common.{◌≡◌, ℕ, [], ◌∷◌, Some, Ok, refl}
use Rattle.freeze_ledger.specs.declared.freeze.Holder.TheVariants.{Timer}
use Rattle.freeze_ledger.specs.declared.freeze.Freeze.{Freeze}
use Rattle.helpers.specs.declared.limits.HelperLimits.{HelperLimits}
use Rattle.ccb.specs.declared.call_refusal.CallRefusal.TheVariants.{Limit, GoesBack}
use Rattle.world_calls.specs.declared.call.Call.TheVariants.{Clock}
use Rattle.world_calls.specs.declared.call_answer.CallAnswer.TheVariants as answers
use Rattle.world_calls.specs.declared.record.Record.TheVariants.{Called}
use Rattle.ccb.specs.Places.{device}
use Rattle.world.specs.World.{World}
use Rattle.world.specs.Event.{refused}
use Rattle.world_laws.proofs.Rows.Words.{clock_reads, expired}
use Rattle.world.specs.Step.{step}
use Rattle.world.specs.Flat.{flat}
use Rattle.world_laws.proofs.Rows.Worked.{freeze_of, one_queue, transported, with_freezes}

-- a timer's freeze of queue 0
abbrev timed : ℕ → ℕ → Freeze
timed number due = record { number = number; place = device 0; holder = Timer due }

-- a guest's freeze between those of timers, and the clock at 1000
abbrev three : World
three = (transported (λ t. record t { clock = 1000 }) (with_freezes (timed 1 1501 ∷ freeze_of 2 7 ∷ timed 4 1500 ∷ []) 4))

-- what is due exactly then goes, what is due later stays, and so does the guest's
goes_at_its_time : (l : HelperLimits) → step (one_queue l) three (clock_reads 1500) ≡ Some (expired 1, (transported (λ t. record t { clock = 1500 }) (with_freezes (timed 1 1501 ∷ freeze_of 2 7 ∷ []) 4)))
goes_at_its_time l = refl

-- none goes before its time
none_goes : (l : HelperLimits) → step (one_queue l) three (clock_reads 1499) ≡ Some (expired 0, record three { transport = record three.transport { clock = 1499 } })
none_goes l = refl

-- all that are due go at once
both_go : (l : HelperLimits) → step (one_queue l) three (clock_reads 9000) ≡ Some (expired 2, (transported (λ t. record t { clock = 9000 }) (with_freezes (freeze_of 2 7 ∷ []) 4)))
both_go l = refl

-- the clock may stand, and does not go back
same_reading : (l : HelperLimits) → step (one_queue l) three (clock_reads 1000) ≡ Some (expired 0, three)
same_reading l = refl

goes_back : (l : HelperLimits) → step (one_queue l) three (clock_reads 999) ≡ Some (refused GoesBack, three)
goes_back l = refl

-- the last reading is 2 ^ 62
last_one : (l : HelperLimits) → step (one_queue l) (with_freezes [] 4) (clock_reads 4611686018427387904) ≡ Some (expired 0, (transported (λ t. record t { clock = 4611686018427387904 }) (with_freezes [] 4)))
last_one l = refl

no_later : (l : HelperLimits) → step (one_queue l) three (clock_reads 4611686018427387905) ≡ Some (refused Limit, three)
no_later l = refl

-- one record is one event
one_record : flat (Called (answers.Removed 1) (Clock 1500) ∷ []) ≡ (clock_reads 1500, expired 1) ∷ []
one_record = refl
