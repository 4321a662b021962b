-- What a call may rely on that freezes a place: a queue that it names, or its run's controller.
use Rattle.std.proofs.Common.{◌≡◌, ℕ, ◌<◌, List, length, Some, refl, ap, sym, subst, ◌∙◌, arith, ltb-true}
use Rattle.std.specs.Prelude.{slice_index_or}
use Rattle.std.proofs.lemmas.List.{length-map}
use Rattle.std.proofs.lemmas.List.Elements.{All-get_or}
use Rattle.freeze_ledger.specs.declared.freeze.Freeze.{Freeze}
use Rattle.ccb.specs.declared.place.Place.{Place}
use Rattle.ccb.specs.Places.{index_of, places_of}
use Rattle.helpers.specs.declared.limits.HelperSet.{HelperSet}
use Rattle.helpers.specs.declared.limits.HelperSet.TheVariants.{Controllers, Queues, Classes}
use Rattle.helpers.specs.declared.table.HelperEffect.TheVariants as effects
use Rattle.helpers.specs.declared.request.Request.{Request}
use Rattle.helpers.specs.Table.{row_of}
use Rattle.bpf_semantics.specs.MachineState.{MachineState}
use Rattle.interpreter.specs.Segments.{SegmentState}
use Rattle.engine_runs.specs.RunsState.{RunsState, tokens_at}
use Rattle.engine_runs.specs.RunPlaces.{HasRunAt}
use Rattle.engine_transport.proofs.Placed.{queue_placed, controller_placed}
use Rattle.world.specs.World.{QueueSetup, no_queue, queue_count, queue_setup, LiveRun, Transport, World}
use Rattle.world.specs.Lawful.{AreUnder}
use Rattle.world.specs.RunSteps.{step_request, takes}
use Rattle.world.specs.Laws.FreezeLaws.{entries_of}
use Rattle.world.proofs.Lists.Each.{all_found}
use Rattle.world.proofs.Steps.Moves.{run_key}
use Rattle.world_laws.proofs.Deeds.{suits, FreezesByRow}
use Rattle.engine_core.specs.TakingOver.{IsCalled, FreezesPlace, freezes_queue, freezes_controller}
use Rattle.engine_core.proofs.Calls.{is_ruled, deed_step, held_are, rule}
use Rattle.engine_core.proofs.Holding.{tokens_here}
use Rattle.engine_core.proofs.Recording.{kept_sound, opening_count}

pub by_row : (place : ℕ) (runs : RunsState) (request : Request) (frozen : Place) → FreezesPlace place runs request frozen → FreezesByRow (row_of request.helper)
by_row place runs request frozen (freezes_queue is named) =
    let columns = suits effects.Freeze request is in
    record { machine_is = columns.machine_is; gives_is = columns.gives_is; tells_is = columns.tells_is }
by_row place runs request frozen (freezes_controller is named) =
    let columns = (suits effects.FreezeController request is).0 in
    record { machine_is = columns.machine_is; gives_is = columns.gives_is; tells_is = columns.tells_is }

-- it is the world's step that takes a freeze of that place
pub freezing_step : (place : ℕ) (runs : RunsState) (request : Request) (frozen : Place) → FreezesPlace place runs request frozen → (before : World) (run : LiveRun) (to : MachineState) → HasRunAt runs.runs.list place run → step_request before (record run { machine = to }) request ≡ Some (takes before (record run { machine = to }) request frozen)
freezing_step place runs request frozen (freezes_queue is named) before run to there =
    let standing : LiveRun = record run { machine = to } in
    deed_step before standing request effects.Freeze is ∙ ap (λ (p : Place). Some (takes before standing request p)) (sym named)
freezing_step place runs request frozen (freezes_controller is named) before run to there =
    let standing : LiveRun = record run { machine = to } in
    deed_step before standing request effects.FreezeController is ∙ ap (λ (p : Place). Some (takes before standing request p)) (sym (named run there))

-- the controller of each queue is one that there may be
pub controller_below : (helpers : HelperSet) (controllers : ℕ) (queues : List QueueSetup) (queue : ℕ) → AreUnder helpers controllers queues → queue < length queues → (slice_index_or queues queue no_queue).controller < 8
controller_below Queues controllers queues queue under known =
    let none = All-get_or (λ (q : QueueSetup). q.controller ≡ 0) queues queue no_queue known under.1 in
    omega (arith, none)
controller_below Controllers controllers queues queue under known =
    let below = All-get_or (λ (q : QueueSetup). q.controller < controllers) queues queue no_queue known under.1 in
    omega (arith, below, under.0.1)
controller_below Classes controllers queues queue under known =
    let below = All-get_or (λ (q : QueueSetup). q.controller < controllers) queues queue no_queue known under.1 in
    omega (arith, below, under.0.1)

module _ (transport : Transport) (old : RunsState) (place : ℕ) (segment : SegmentState) (request : Request) (it : IsCalled transport old place segment request) where
  -- the controller of the run at a place
  pub controller_there : (controller : ℕ) → controller ≡ it.admitted.out.it.controller → controller < 8
  controller_there controller controller_is =
      let a = it.admitted in
      let sound = kept_sound a.setup a.history transport old a.kept in
      let known = all_found run_key (λ (r : LiveRun). r.queue < queue_count a.setup) it.number old.runs.list a.out.it sound.kept.runs.queues a.out.found in
      let its = all_found run_key (λ (r : LiveRun). r.controller ≡ (queue_setup a.setup r.queue).controller) it.number old.runs.list a.out.it sound.kept.runs.controllers a.out.found in
      let below = controller_below a.setup.limits.helpers a.setup.controllers a.setup.queues a.out.it.queue a.kept.run.lawful.under known in
      omega (arith, controller_is, its, below)

  -- the queue that the call names is there
  pub queue_named : (row_of request.helper).effect ≡ effects.Freeze → (request.arguments.first < length transport.openings) × (request.arguments.first < 4294967296)
  queue_named is =
      let a = it.admitted in
      let ruled = is_ruled a.setup.limits segment.to request _ _ _ _ _ _ _ (suits effects.Freeze request is) (rule transport old place segment request it) in
      let known : request.arguments.first < a.setup.limits.queues = ltb-true _ _ ruled.first_met in (
        omega (arith, known, a.kept.run.lawful.agreed, opening_count a.setup a.history transport old a.kept),
        omega (arith, known, a.kept.run.lawful.agreed, a.kept.run.lawful.queue_number.1),
      )

  -- the place is there, and the run has room for a freeze more
  pub record IsFreezing (frozen : Place) : Type 0 where
    pub run : LiveRun
    pub there : HasRunAt old.runs.list place run
    pub few : length (tokens_at old place) < 8
    pub known : index_of frozen < places_of (length transport.openings) 8

  with_room : (frozen : Place) → length segment.to.held < 8 → index_of frozen < places_of (length transport.openings) 8 → IsFreezing frozen
  with_room frozen room known =
      let a = it.admitted in
      let own : List Freeze = entries_of a.out.it.number transport.freezes in
      record {
        run = a.out.it;
        there = a.there;
        few = omega (arith, room, ap length (held_are transport old place segment request it it.number a), length-map own (λ (f : Freeze). f.number), ap length (tokens_here transport.freezes old place a.out.it a.kept.tokens a.there), length-map own (λ (f : Freeze). Some f));
        known = known;
      }

  pub freezing : (frozen : Place) → FreezesPlace place old request frozen → IsFreezing frozen
  freezing frozen (freezes_queue is named) =
      let a = it.admitted in
      let ruled = is_ruled a.setup.limits segment.to request _ _ _ _ _ _ _ (suits effects.Freeze request is) (rule transport old place segment request it) in
      with_room frozen (ltb-true (length segment.to.held) 8 ruled.needed)
      (subst (λ (p : Place). index_of p < places_of (length transport.openings) 8) (sym named) (queue_placed (length transport.openings) request.arguments.first (queue_named is).0))
  freezing frozen (freezes_controller is named) =
      let a = it.admitted in
      let ruled = is_ruled a.setup.limits segment.to request _ _ _ _ _ _ _ (suits effects.FreezeController request is).0 (rule transport old place segment request it) in
      with_room frozen (ltb-true (length segment.to.held) 8 ruled.needed)
      (subst (λ (p : Place). index_of p < places_of (length transport.openings) 8) (sym (named a.out.it a.there)) (controller_placed (length transport.openings) a.out.it.controller (controller_there a.out.it.controller refl)))
