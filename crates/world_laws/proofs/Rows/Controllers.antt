-- Worked rows of controllers: freezes of one by a guest and by a run, and what that does to the queues under it.
use Rattle.std.proofs.Common.{◌≡◌, ℕ, true, false, List, [], ◌∷◌, Some, None, refl, replicate}
use Rattle.freeze_ledger.specs.declared.freeze.Holder.{Holder}
use Rattle.freeze_ledger.specs.declared.freeze.Holder.TheVariants.{Run, Guest}
use Rattle.freeze_ledger.specs.declared.freeze.Freeze.{Freeze}
use Rattle.ccb.specs.declared.place.Place.TheVariants.{Controller}
use Rattle.ccb.specs.Places.{device}
use Rattle.freeze_ledger.specs.Freezes.{frozen}
use Rattle.helpers.specs.declared.limits.HelperSet.TheVariants.{Controllers}
use Rattle.helpers.specs.declared.table.Helper.TheVariants as helpers
use Rattle.helpers.specs.Table.{of_queues, row_of}
use Rattle.world_calls.specs.declared.call.Call.TheVariants.{Dispatch, GuestFreeze}
use Rattle.ccb.specs.declared.call_refusal.CallRefusal.TheVariants.{Unknown, Limit, Frozen, NothingWaits, ControllerFrozen}
use Rattle.world.specs.declared.ccb_state.CcbState.TheVariants.{Waiting, InRecovery}
use Rattle.world.specs.World.{Setup, LiveCcb, LiveRun, World}
use Rattle.world.specs.Told.{plain}
use Rattle.world.specs.Event.{call, Event, called, executes, refused, result}
use Rattle.world.specs.Step.{step}
use Rattle.world_laws.proofs.Rows.Calls.{run_at, setup as without_controllers}
use Rattle.world_laws.proofs.Rows.Words.{freeze_given}
use Rattle.world_laws.proofs.Rows.Worked.{answer, ccb_in, next, queue_of, running, transported, with_freezes}

-- two queues under controllers 0 and 1
abbrev setup : Setup
setup = record {
  limits = record (of_queues 2 []) { helpers = Controllers };
  controllers = 2;
  tables = [];
  queues = queue_of 1 ∷ record (queue_of 2) { controller = 1 } ∷ [];
  carried = None;
}

abbrev of_controller : ℕ → ℕ → Holder → Freeze
of_controller number controller holder = record { number = number; place = Controller controller; holder = holder }

abbrev world_with : List LiveCcb → List LiveRun → List Freeze → ℕ → World
world_with live runs freezes greatest = (transported (λ t. record t { live = live; openings = 1 ∷ 2 ∷ []; greatest_ccb = 9 }) (running (λ r. record r { list = runs; greatest = 1 }) (with_freezes freezes greatest)))

-- a guest freezes a controller that there is
abbrev freezes_controller : ℕ → Event
freezes_controller controller = called (GuestFreeze (Controller controller) 7)

guests : step setup (world_with [] [] [] 4) (freezes_controller 1) ≡ Some (freeze_given 5, world_with [] [] (of_controller 5 1 (Guest 7) ∷ []) 5)
guests = refl

no_such : answer setup (world_with [] [] [] 4) (freezes_controller 2) ≡ Some (refused Unknown)
no_such = refl

none_at_all : answer without_controllers (world_with [] [] [] 4) (freezes_controller 0) ≡ Some (refused Unknown)
none_at_all = refl

-- 255 are the most of one controller, whatever its queues have
full_controller : answer setup (world_with [] [] (replicate 255 (of_controller 1 1 (Guest 7))) 4) (freezes_controller 1) ≡ Some (refused Limit)
full_controller = refl

another_controller : answer setup (world_with [] [] (replicate 255 (of_controller 1 1 (Guest 7))) 4) (freezes_controller 0) ≡ Some (freeze_given 5)
another_controller = refl

-- it stops starts of its own queues, after all that stops them by themselves
abbrev starts : ℕ → Event
starts queue = called (Dispatch (record { 0 = queue }))

stopped : answer setup (world_with (ccb_in 3 0 Waiting ∷ []) [] (of_controller 4 0 (Guest 7) ∷ []) 4) (starts 0) ≡ Some (refused ControllerFrozen)
stopped = refl

nobody_waits : answer setup (world_with [] [] (of_controller 4 0 (Guest 7) ∷ []) 4) (starts 0) ≡ Some (refused NothingWaits)
nobody_waits = refl

both_frozen : answer setup (world_with (ccb_in 3 0 Waiting ∷ []) [] (of_controller 3 0 (Guest 7) ∷ record { number = 4; place = device 0; holder = Guest 7 } ∷ []) 4) (starts 0) ≡ Some (refused Frozen)
both_frozen = refl

-- and of no other's, and counts on no queue
not_stopped : answer setup (world_with (ccb_in 3 0 Waiting ∷ []) [] (of_controller 4 1 (Guest 7) ∷ []) 4) (starts 0) ≡ answer setup (world_with (ccb_in 3 0 Waiting ∷ []) [] [] 4) (starts 0)
not_stopped = refl

on_no_queue : frozen (device 1) (of_controller 4 1 (Guest 7) ∷ []) ≡ 0
on_no_queue = refl

-- a run freezes the controller of its own queue, and is told how often it is frozen
abbrev calls_13 : Event
calls_13 = executes 1 (call (plain helpers.FreezeController))

abbrev calls_14 : Event
calls_14 = executes 1 (call (plain helpers.ControllerFreezes))

abbrev at_call : ℕ → List ℕ → List Freeze → World
at_call helper held freezes = world_with (ccb_in 1 5 InRecovery ∷ []) (run_at helper 0 0 held false ∷ []) freezes 9

taken : answer setup (at_call 13 [] []) calls_13 ≡ Some (result 10)
unfolding row_of
taken = refl

its_freeze : (next setup (at_call 13 [] []) calls_13).transport.freezes ≡ of_controller 10 0 (Run 1) ∷ []
unfolding row_of
its_freeze = refl

not_taken : answer setup (at_call 13 [] (replicate 255 (of_controller 1 0 (Guest 7)))) calls_13 ≡ Some (result 0)
unfolding row_of
not_taken = refl

-- a run that holds eight freezes may not ask for one more
eight_held : answer setup (at_call 13 (1 ∷ 2 ∷ 3 ∷ 4 ∷ 5 ∷ 6 ∷ 7 ∷ 8 ∷ []) []) calls_13 ≡ None
unfolding row_of
eight_held = refl

told : answer setup (at_call 14 [] (of_controller 1 0 (Guest 7) ∷ of_controller 2 0 (Guest 8) ∷ of_controller 3 1 (Guest 9) ∷ [])) calls_14 ≡ Some (result 2)
unfolding row_of
told = refl

-- where there are no controllers neither is a call
no_call : answer without_controllers (at_call 13 [] []) calls_13 ≡ None
unfolding row_of
no_call = refl

nor_this : answer without_controllers (at_call 14 [] []) calls_14 ≡ None
unfolding row_of
nor_this = refl
