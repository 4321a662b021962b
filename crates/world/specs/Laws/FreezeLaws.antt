-- The laws of frozen counts and freezes: what holds in every run of the world.
use Rattle.std.specs.Prelude.{◌≡◌, ℕ, ◌+◌, ◌==◌, true, false, if◌then◌else◌, List, ◌∷◌, ◌++◌, map, filter, length, IsSome, Some}
use Rattle.freeze_ledger.specs.declared.freeze.Freeze.{Freeze}
use Rattle.ccb.specs.declared.place.Place.{Place}
use Rattle.ccb.specs.declared.place.Place.TheVariants.{Controller, Device}
use Rattle.ccb.specs.Places.{is_place, device}
use Rattle.freeze_ledger.specs.Freezes.{names, frozen, entry_of, due_at}
use Rattle.ccb.specs.Completion.{Outcome}
use Rattle.helpers.specs.declared.table.HelperEffect.{HelperEffect}
use Rattle.helpers.specs.declared.table.HelperEffect.TheVariants as effects
use Rattle.helpers.specs.declared.request.Request.{Request}
use Rattle.helpers.specs.Table.{row_of}
use Rattle.bpf_semantics.specs.Step.{request_at}
use Rattle.world_calls.specs.declared.call.Call.TheVariants.{Complete, GuestFreeze, GuestRelease, Clock}
use Rattle.world_calls.specs.declared.call_answer.CallAnswer.TheVariants as answers
use Rattle.world.specs.World.{Setup, LiveCcb, LiveRun, World}
use Rattle.world.specs.Lawful.{IsLawful}
use Rattle.world.specs.Lookups.{ccb_of, run_of}
use Rattle.world.specs.Told.{Told, helper_in}
use Rattle.world.specs.Event.{call, Event, called, executes, Reply, replies, result}
use Rattle.world.specs.FreezeSteps.{frozen_with, is_timer}
use Rattle.world.specs.RunSteps.{is_run}
use Rattle.world.specs.Step.{WorldStep}
use Rattle.world.specs.WorldRun.{Leads, WorldRun}

-- a freeze of that number is there
abbrev pub IsHeld : ℕ → World → Type 0
IsHeld number world = IsSome (entry_of number world.transport.freezes)

-- no freeze came or went
abbrev pub KeepsFreezes : World → World → Type 0
KeepsFreezes before after = after.transport.freezes ≡ before.transport.freezes

-- one freeze more, of that place, and of any other as many as before
abbrev pub OneMore : World → Place → World → Type 0
OneMore before place after =
    (other : Place) → frozen other after.transport.freezes ≡ frozen other before.transport.freezes + (if is_place place other then 1 else 0)

-- The freeze of that number went: one fewer of its place, of any other as many as before, and `count` is how many
-- entries name its place now.
pub record OneFewer (before : World) (number count : ℕ) (after : World) : Type 0 where
  pub freeze : Freeze
  pub entry : entry_of number before.transport.freezes ≡ Some freeze
  pub count_is : count ≡ frozen_with freeze after.transport.freezes
  pub fewer : (other : Place) → frozen other after.transport.freezes + (if names other freeze then 1 else 0) ≡ frozen other before.transport.freezes

-- The freezes whose timers are due went, `count` in all: of each place as many as were its own.
pub record DueGone (before : World) (reading count : ℕ) (after : World) : Type 0 where
  pub count_is : count ≡ length (due_at reading before.transport.freezes)
  pub fewer : (other : Place) → frozen other after.transport.freezes + frozen other (due_at reading before.transport.freezes) ≡ frozen other before.transport.freezes

-- a clock reading, by its reply
abbrev pub MovesByClock : World → ℕ → Reply → World → Type 0
MovesByClock before reading (replies (answers.Removed count)) after = DueGone before reading count after
MovesByClock before reading (replies (answers.Refused refusal)) after = after ≡ before
MovesByClock before reading reply after = ⊥

-- a guest's freeze, by its reply
abbrev pub MovesByFreeze : World → Place → Reply → World → Type 0
MovesByFreeze before place (replies (answers.Freeze number)) after = OneMore before place after
MovesByFreeze before place (replies (answers.Refused refusal)) after = after ≡ before
MovesByFreeze before place reply after = ⊥

-- a completion, by its reply: one more of the CCB's queue where a run started with a freeze, which has a number above 0
abbrev pub MovesByCompletion : World → Outcome → Reply → World → Type 0
MovesByCompletion before outcome (replies (answers.Started run freeze)) after =
    (live : LiveCcb) × (ccb_of outcome.ccb.0 before.transport.live ≡ Some live)
    × ((other : Place) →
    frozen other after.transport.freezes
    ≡ frozen other before.transport.freezes + (if freeze == 0 then 0 else if is_place (Device live.ccb.queue) other then 1 else 0))
MovesByCompletion before outcome (replies answers.Done) after = KeepsFreezes before after
MovesByCompletion before outcome (replies (answers.Refused refusal)) after = after ≡ before
MovesByCompletion before outcome reply after = ⊥

-- the run stands at this call
abbrev pub Calls : World → ℕ → Request → Type 0
Calls world run request =
    (it : LiveRun) × (run_of run world.runs.list ≡ Some it) × (request_at it.program it.machine ≡ Some request)

-- the run stands at a call that does this deed, with this number in R1
pub record CallsTo (effect : HelperEffect) (world : World) (run number : ℕ) : Type 0 where
  pub request : Request
  pub calls : Calls world run request
  pub deed_is : (row_of request.helper).effect ≡ effect
  pub number_is : request.arguments.first ≡ number

-- the freeze that the run asks to give back
abbrev pub AsksFor : World → ℕ → ℕ → Type 0
AsksFor world run number = CallsTo effects.GiveBack world run number

-- and that which it asks to hand over to a timer
abbrev pub HandsOver : World → ℕ → ℕ → Type 0
HandsOver world run number = CallsTo effects.HandOver world run number

-- the queue that the run asks to freeze
abbrev pub AsksQueue : World → ℕ → Place → Type 0
AsksQueue world run place = (queue : ℕ) × CallsTo effects.Freeze world run queue × (place ≡ device queue)

-- the controller that it asks to freeze, which is its own
abbrev pub AsksController : World → ℕ → Place → Type 0
AsksController world run place =
    (it : LiveRun) × (run_of run world.runs.list ≡ Some it) × (place ≡ Controller it.controller)
    × ((number : ℕ) × CallsTo effects.FreezeController world run number)

-- A run's call for a further freeze of a place, by its reply: one more of the place, or, where the reply is 0, none.
pub record MovesByTaking (Asks : Place → Type 0) (before : World) (reply : Reply) (after : World) : Type 0 where
  pub place : Place
  pub freeze : ℕ
  pub asks : Asks place
  pub reply_is : reply ≡ result freeze
  pub more : (other : Place) → frozen other after.transport.freezes ≡ frozen other before.transport.freezes + (if freeze == 0 then 0 else if is_place place other then 1 else 0)

-- A run's call that gives a freeze back: one fewer of its place, and the reply is how many there are then.
pub record MovesByGiving (before : World) (run : ℕ) (reply : Reply) (after : World) : Type 0 where
  pub number : ℕ
  pub count : ℕ
  pub asks : AsksFor before run number
  pub reply_is : reply ≡ result count
  pub fewer : OneFewer before number count after

-- no place's count changed: a freeze may have another holder
abbrev pub KeepsCounts : World → World → Type 0
KeepsCounts before after = (other : Place) → frozen other after.transport.freezes ≡ frozen other before.transport.freezes

-- what a run's call does to each place's frozen count, by its deed
abbrev pub MovesByEffect : HelperEffect → World → ℕ → Reply → World → Type 0
MovesByEffect effects.Freeze before run reply after = MovesByTaking (AsksQueue before run) before reply after
MovesByEffect effects.FreezeController before run reply after = MovesByTaking (AsksController before run) before reply after
MovesByEffect effects.GiveBack before run reply after = MovesByGiving before run reply after
MovesByEffect effects.HandOver before run reply after = KeepsCounts before after
MovesByEffect effect before run reply after = KeepsFreezes before after

-- What a step does to each place's frozen count: a freeze that was taken adds one to its place's, by whomever it was
-- taken, and one that is given back takes one; the reply to that is the number of entries that name the place now. One
-- that is handed over stays. A clock reading takes those whose timers are due. Nothing else changes a count.
abbrev pub MovesCounts : World → Event → Reply → World → Type 0
MovesCounts before (called (GuestFreeze place guest)) reply after = MovesByFreeze before place reply after
MovesCounts before (called (Complete outcome)) reply after = MovesByCompletion before outcome reply after
MovesCounts before (called (GuestRelease number)) reply after =
    (count : ℕ) × (reply ≡ replies (answers.Left count)) × OneFewer before number count after
MovesCounts before (called (Clock reading)) reply after = MovesByClock before reading reply after
MovesCounts before (executes run (call told)) reply after = MovesByEffect (row_of (helper_in told)).effect before run reply after
MovesCounts before event reply after = KeepsFreezes before after

-- at every moment of every run each frozen count moves as its entries do
abbrev pub CountsAreEntries : Type 0
CountsAreEntries =
    (setup : Setup) (xs : List (Event × Reply)) (before : World) → WorldRun setup xs before →
    (event : Event) (reply : Reply) (after : World) → WorldStep setup before event reply after → MovesCounts before event reply after

-- a number that a guest gave up is never held again
abbrev pub GivenUpStaysGivenUp : Type 0
GivenUpStaysGivenUp =
    (setup : Setup) (xs ys : List (Event × Reply)) (number : ℕ) (reply : Reply) (world : World) →
    WorldRun setup (xs ++ (called (GuestRelease number), reply) ∷ ys) world → IsHeld number world → ⊥

-- nor is one that a run gave up
abbrev pub GivenUpByRunStaysGivenUp : Type 0
GivenUpByRunStaysGivenUp =
    (setup : Setup) (xs ys : List (Event × Reply)) (run number : ℕ) (told : Told) (reply : Reply) (before world : World) →
    WorldRun setup xs before → AsksFor before run number →
    Leads setup before ((executes run (call told), reply) ∷ ys) world → IsHeld number world → ⊥

-- a run or a guest holds the freeze of that number
abbrev pub IsOwned : ℕ → World → Type 0
IsOwned number world = (freeze : Freeze) × (entry_of number world.transport.freezes ≡ Some freeze) × (is_timer freeze.holder ≡ false)

-- one that a run handed over is held by a timer or gone ever after, and never by a run or a guest again
abbrev pub HandedOverStaysHandedOver : Type 0
HandedOverStaysHandedOver =
    (setup : Setup) (xs ys : List (Event × Reply)) (run number : ℕ) (told : Told) (reply : Reply) (before world : World) →
    WorldRun setup xs before → HandsOver before run number →
    Leads setup before ((executes run (call told), reply) ∷ ys) world → IsOwned number world → ⊥

-- a number whose freeze is gone never has one again
abbrev pub GoneStaysGone : Type 0
GoneStaysGone =
    (setup : Setup) (xs ys zs : List (Event × Reply)) (number : ℕ) (held gone later : World) →
    WorldRun setup xs held → IsHeld number held →
    Leads setup held ys gone → (IsHeld number gone → ⊥) →
    Leads setup gone zs later → IsHeld number later → ⊥

-- the entries that name the run as their holder, in their order
abbrev pub entries_of : ℕ → List Freeze → List Freeze
entries_of run freezes = filter (λ freeze. is_run run freeze.holder) freezes

-- the numbers of the freezes that a run holds
abbrev pub held_by : ℕ → List Freeze → List ℕ
held_by run freezes = map (λ freeze. freeze.number) (entries_of run freezes)

-- What the machine of each live run holds is what the entries say that the run holds, and no entry names a run that is
-- not live.
pub record HoldsWhatEntriesSay (world : World) : Type 0 where
  pub machines : (number : ℕ) (run : LiveRun) → run_of number world.runs.list ≡ Some run → run.machine.held ≡ held_by number world.transport.freezes
  pub entries : (number run : ℕ) (freeze : Freeze) → entry_of number world.transport.freezes ≡ Some freeze → is_run run freeze.holder ≡ true → IsSome (run_of run world.runs.list)

-- at every moment of every run of a lawful setup
abbrev pub HeldAreEntries : Type 0
HeldAreEntries = (setup : Setup) → IsLawful setup → (xs : List (Event × Reply)) (world : World) → WorldRun setup xs world → HoldsWhatEntriesSay world
