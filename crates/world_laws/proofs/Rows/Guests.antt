-- Worked rows of guests' freezes, computed by the definitions themselves.
use Rattle.std.proofs.Common.{◌≡◌, [], ◌∷◌, Some, None, Ok, refl, replicate}
use Rattle.freeze_ledger.specs.declared.freeze.Holder.TheVariants.{Run, Timer, Guest}
use Rattle.helpers.specs.declared.limits.HelperLimits.{HelperLimits}
use Rattle.ccb.specs.declared.call_refusal.CallRefusal.TheVariants.{Unknown, Limit}
use Rattle.world_calls.specs.declared.call.Call.TheVariants.{GuestFreeze, GuestRelease}
use Rattle.world_calls.specs.declared.call_answer.CallAnswer.TheVariants as answers
use Rattle.world_calls.specs.declared.record.Record.TheVariants.{Called}
use Rattle.ccb.specs.Places.{device}
use Rattle.world.specs.World.{World, opening}
use Rattle.world.specs.Event.{refused}
use Rattle.world_laws.proofs.Rows.Words.{guest_freeze, guest_release, freeze_given, count_left}
use Rattle.world.specs.Step.{step}
use Rattle.world.specs.WorldRun.{WorldRun}
use Rattle.world.specs.Flat.{flat}
use Rattle.world.specs.TotalsOf.{TotalsOf}
use Rattle.world_laws.proofs.Rows.Worked.{one_queue, zero_tables, with_freezes, freeze_of}

-- a guest freezes queue 0 and gives the freeze back
two_lines : (l : HelperLimits) → WorldRun (one_queue l) ((guest_freeze 0 7, freeze_given 1) ∷ (guest_release 1, count_left 0) ∷ []) (zero_tables l (with_freezes [] 1))
two_lines l = (tt, (zero_tables l (with_freezes (freeze_of 1 7 ∷ []) 1), refl, (zero_tables l (with_freezes [] 1), refl, refl)))

-- which is what its two records stand for, and their totals
two_records : flat (Called (answers.Freeze 1) (GuestFreeze (device 0) 7) ∷ Called (answers.Left 0) (GuestRelease 1) ∷ []) ≡ (guest_freeze 0 7, freeze_given 1) ∷ (guest_release 1, count_left 0) ∷ []
two_records = refl

two_totals : (l : HelperLimits) → TotalsOf (one_queue l) (Called (answers.Freeze 1) (GuestFreeze (device 0) 7) ∷ Called (answers.Left 0) (GuestRelease 1) ∷ []) (record { history = 2; frozen = 0; active = 0; runs = 0 })
two_totals l = (zero_tables l (with_freezes [] 1), two_lines l, refl)

-- there is no queue 1
unknown_queue : (l : HelperLimits) → step (one_queue l) (opening (one_queue l)) (guest_freeze 1 7) ≡ Some (refused Unknown, opening (one_queue l))
unknown_queue l = refl

-- nothing was taken, so nothing can be given back
nothing_held : (l : HelperLimits) → step (one_queue l) (opening (one_queue l)) (guest_release 1) ≡ None
nothing_held l = refl

-- what a run or a timer holds is no guest's to give back
abbrev held_by_others : World
held_by_others = with_freezes (record { number = 1; place = device 0; holder = Run 1 } ∷ record { number = 2; place = device 0; holder = Timer 1500 } ∷ []) 2

not_the_runs : (l : HelperLimits) → step (one_queue l) held_by_others (guest_release 1) ≡ None
not_the_runs l = refl

not_the_timers : (l : HelperLimits) → step (one_queue l) held_by_others (guest_release 2) ≡ None
not_the_timers l = refl

-- of two freezes the first goes, and the second stays and is told
first_of_two : (l : HelperLimits) → step (one_queue l) (with_freezes (freeze_of 3 7 ∷ freeze_of 4 7 ∷ []) 4) (guest_release 3) ≡ Some (count_left 1, with_freezes (freeze_of 4 7 ∷ []) 4)
first_of_two l = refl

-- a number is one more than the greatest given, though the freezes that bore it are gone
numbers_go_on : (l : HelperLimits) → step (one_queue l) (with_freezes [] 9) (guest_freeze 0 7) ≡ Some (freeze_given 10, with_freezes (freeze_of 10 7 ∷ []) 10)
numbers_go_on l = refl

-- a queue takes 255 freezes and no more
abbrev full_queue : World
full_queue = with_freezes (replicate 255 (freeze_of 1 7)) 255

queue_limit : (l : HelperLimits) → step (one_queue l) full_queue (guest_freeze 0 7) ≡ Some (refused Limit, full_queue)
queue_limit l = refl

-- the ledger takes 1024, here all of another queue
abbrev full_ledger : World
full_ledger = with_freezes (replicate 1024 (record { number = 1; place = device 1; holder = Guest 7 })) 1024

ledger_limit : (l : HelperLimits) → step (one_queue l) full_ledger (guest_freeze 0 7) ≡ Some (refused Limit, full_ledger)
ledger_limit l = refl

-- the last number is 4,294,967,295
last_number : (l : HelperLimits) → step (one_queue l) (with_freezes [] 4294967294) (guest_freeze 0 7) ≡ Some (freeze_given 4294967295, with_freezes (freeze_of 4294967295 7 ∷ []) 4294967295)
last_number l = refl

abbrev used_up : World
used_up = with_freezes [] 4294967295

number_limit : (l : HelperLimits) → step (one_queue l) used_up (guest_freeze 0 7) ≡ Some (refused Limit, used_up)
number_limit l = refl

-- C1 comes before C2
unknown_first : (l : HelperLimits) → step (one_queue l) used_up (guest_freeze 1 7) ≡ Some (refused Unknown, used_up)
unknown_first l = refl
