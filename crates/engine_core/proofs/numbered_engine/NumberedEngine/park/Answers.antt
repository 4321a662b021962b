use Rattle.std.proofs.Common.{refl, subst}
use Rattle.world_calls.specs.declared.call.Call.TheVariants.{Park}
use Rattle.world_calls.specs.declared.record.Record.TheVariants.{Called}
use Rattle.engine_core.specs.ByNumber.{CannotFollow, NumberedState}
use Rattle.engine_core.proofs.Numbered.{follows, keeps_tokens, no_park, parks_out, state_of}
use Rattle.engine_core.specs.Settings.{setup_over}
use Rattle.engine_core.proofs.numbered_engine.NumberedEngine.park.Goals as goal

-- no run of that number is out

pub returns-in_err-place-clause-answered : goal.returns-in_err-place-clause-answered
returns-in_err-place-clause-answered c = rw c.from_residual.ensures (
  refl,
  λ answer. subst (λ (s : NumberedState). CannotFollow s (Called answer (Park c.args.run))) c.self.view_is
      (no_park (state_of (setup_over c.self.inside.config.now c.self.inside.over.world) c.self.inside.parts.transport c.self.inside.parts.runs) c.args.run answer c.in_err-place.ensures.none),
)

-- one is

pub invariant_of-self : goal.invariant_of-self
invariant_of-self c =
    let there = c.in_ok-place.ensures.place in
    keeps_tokens (setup_over c.self.inside.config.now c.self.inside.over.world) c.self.inside.parts.transport c.self.inside.parts.runs c.self.inside.parts.transport c.set_out.new.self _ c.self.inside.tokens.items c.self.invariant
    (parks_out (setup_over c.self.inside.config.now c.self.inside.over.world) c.self.inside.parts.transport c.self.inside.parts.runs c.set_out.new.self c.args.run there.0 there.1 there.2 (c.set_out.ensures there.0 there.3)) (tt, tt)

pub returns-clause-answered : goal.returns-clause-answered
returns-clause-answered c =
    let there = c.in_ok-place.ensures.place in
    rw (← c.self.view_is) (follows (setup_over c.self.inside.config.now c.self.inside.over.world) c.self.inside.parts.transport c.self.inside.parts.runs c.self.inside.parts.transport c.set_out.new.self _ c.self.inside.tokens.items c.self.invariant
    (parks_out (setup_over c.self.inside.config.now c.self.inside.over.world) c.self.inside.parts.transport c.self.inside.parts.runs c.set_out.new.self c.args.run there.0 there.1 there.2 (c.set_out.ensures there.0 there.3)))
