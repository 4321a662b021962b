use Rattle.std.proofs.Common.{sym, subst, ◌∙◌}
use Rattle.engine_core.specs.declared.event.Event.TheVariants as events
use Rattle.world_calls.specs.declared.record.Record.{Record}
use Rattle.engine_core.specs.EngineState.{Records}
use Rattle.engine_core.specs.declared.reply.Success.TheVariants as given
use Rattle.engine_core.specs.declared.reply.Reply.TheVariants.{Success}
use Rattle.engine_core.specs.Settings.{setup_over}
use Rattle.engine_core.proofs.Answering.{Appended, appended, on_ok, seen}
use Rattle.engine_core.proofs.engine.Engine.guest_release.Goals as goal

-- one record more
made : (c : goal.After-push_reserved) → Appended (setup_over c.self.inside.config c.self.inside.over.world) c.self.inside.history c.push_reserved.new.self c.self.inside.parts.transport c.self.inside.parts.runs c.guest_release-count.new.transport c.self.inside.parts.runs c.guest_release-count.result.1
made c =
    appended (setup_over c.self.inside.config c.self.inside.over.world) c.self.inside.history c.reserve.new.self c.push_reserved.new.self (events.GuestRelease c.args.token) c.self.inside.parts.transport c.self.inside.parts.runs c.guest_release-count.new.transport c.self.inside.parts.runs (Success (given.Left c.guest_release-count.result.0)) c.guest_release-count.result.1
    c.self.invariant.0 c.reserve.ensures.records c.reserve.ensures.taken c.push_reserved.ensures.records c.push_reserved.ensures.taken (on_ok c.reserve.result _ (sym c.is_err.ensures.value ∙ c.if-is_err.false) c.reserve.ensures.room) c.push_reserved.ensures.capacity (c.guest_release-count.ensures.performs (setup_over c.self.inside.config c.self.inside.over.world) c.self.inside.parts.runs)

pub invariant_of-self-2 : goal.invariant_of-self-2
invariant_of-self-2 c = let it = made c in (it.kept, it.room)

pub returns-clause-released : goal.returns-clause-released
returns-clause-released c = rw (← c.self.view_is) (
    subst (λ (told : Record). Records (seen (setup_over c.self.inside.config c.self.inside.over.world) c.self.inside.history c.self.inside.parts.transport c.self.inside.parts.runs) (seen (setup_over c.self.inside.config c.self.inside.over.world) c.push_reserved.new.self c.guest_release-count.new.transport c.self.inside.parts.runs) told) c.guest_release-count.ensures.told (made c).records)

pub returns-clause-run : goal.returns-clause-run
returns-clause-run c = (made c).kept.run
