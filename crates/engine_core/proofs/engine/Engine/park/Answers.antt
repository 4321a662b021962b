use Rattle.std.proofs.Common.{length, ap, refl, subst, ◌∙◌}
use Rattle.std.proofs.lemmas.List.{length_push}
use Rattle.world_calls.specs.declared.record.Record.{Record}
use Rattle.engine_core.specs.EngineState.{Records}
use Rattle.engine_core.specs.Performing.{Performs}
use Rattle.engine_core.specs.declared.event.Event.TheVariants as events
use Rattle.engine_core.specs.declared.reply.Success.TheVariants as given
use Rattle.engine_core.specs.declared.reply.Reply.TheVariants.{Success}
use Rattle.engine_core.specs.Settings.{setup_over}
use Rattle.engine_core.proofs.Answering.{performed, seen}
use Rattle.engine_core.proofs.Parking.{room_kept}
use Rattle.engine_core.proofs.Recording.{Goes}
use Rattle.engine_core.proofs.engine.Engine.park.Goals as goal

parks : (c : goal.After-push_reserved) → Performs (setup_over c.self.inside.config c.self.inside.over.world) (events.Park c.args.run) c.self.inside.parts.transport c.self.inside.parts.runs c.self.inside.parts.transport c.park-told.new.runs (Success given.Parked) c.park-told.result
parks c = c.park-told.ensures.performs (setup_over c.self.inside.config c.self.inside.over.world) c.self.inside.parts.transport c.self.inside.history.records c.self.invariant.0

-- one record more
made : (c : goal.After-push_reserved) → Goes (setup_over c.self.inside.config c.self.inside.over.world) c.self.inside.history.records c.push_reserved.new.self.records c.self.inside.parts.transport c.self.inside.parts.transport c.self.inside.parts.runs c.park-told.new.runs c.park-told.result
made c = performed (setup_over c.self.inside.config c.self.inside.over.world) c.self.inside.history.records c.push_reserved.new.self.records (events.Park c.args.run) c.self.inside.parts.transport c.self.inside.parts.runs c.self.inside.parts.transport c.park-told.new.runs (Success given.Parked) c.park-told.result c.self.invariant.0 c.push_reserved.ensures.records (parks c)

pub invariant_of-self : goal.invariant_of-self
invariant_of-self c = (
  (made c).kept,
  room_kept _ _ _ _ c.park-told.new.runs.runs.list ((parks c).room _ _ c.self.invariant.1) (ap length c.push_reserved.ensures.records ∙ length_push _ _) c.push_reserved.ensures.capacity,
)

pub returns-clause-parked : goal.returns-clause-parked
returns-clause-parked c = rw (← c.self.view_is) (
    subst (λ (told : Record). Records (seen (setup_over c.self.inside.config c.self.inside.over.world) c.self.inside.history c.self.inside.parts.transport c.self.inside.parts.runs) (seen (setup_over c.self.inside.config c.self.inside.over.world) c.push_reserved.new.self c.self.inside.parts.transport c.park-told.new.runs) told) c.park-told.ensures.told
    (record { history = c.push_reserved.ensures.records; taken = c.push_reserved.ensures.taken; setup = refl; step = (made c).leads }))

pub returns-clause-run : goal.returns-clause-run
returns-clause-run c = (made c).kept.run
