use Rattle.std.proofs.Common.{refl, subst}
use Rattle.world_calls.specs.declared.record.Record.TheVariants.{Advance}
use Rattle.engine_core.specs.ByNumber.{CannotFollow, NumberedState}
use Rattle.engine_core.proofs.Numbered.{advance_by, advance_of_others, follows, keeps_tokens, moved, no_advance, out_there, state_of}
use Rattle.engine_core.specs.Settings.{setup_over}
use Rattle.engine_core.proofs.numbered_engine.NumberedEngine.advance.Goals as goal

-- no run of that number is out

pub returns-in_default-clause-advanced : goal.returns-in_default-clause-advanced
returns-in_default-clause-advanced c = (
  refl,
  λ instructions stop r0. subst (λ (s : NumberedState). CannotFollow s (Advance c.args.run instructions stop r0)) c.self.view_is
      (no_advance (state_of (setup_over c.self.inside.config.now c.self.inside.over.world) c.self.inside.parts.transport c.self.inside.parts.runs) c.args.run instructions stop r0 c.in_default.ensures.none),
)

-- one is

pub go_on_here-requires-clause-out : goal.go_on_here-requires-clause-out
go_on_here-requires-clause-out c =
    let there = c.in-Some.ensures.place in
    out_there c.self.inside.parts.runs.runs.list c.in-Some.place c.args.run there.0 there.1 there.2 there.3

pub invariant_of-self-2 : goal.invariant_of-self-2
invariant_of-self-2 c =
    let there = c.in-Some.ensures.place in
    let step = c.in_ok-told.ensures.step in
    keeps_tokens (setup_over c.self.inside.config.now c.self.inside.over.world) c.self.inside.parts.transport c.self.inside.parts.runs c.go_on_here.new.transport c.go_on_here.new.runs c.in_ok-told.told c.self.inside.tokens.items c.self.invariant
    (moved _ _ _ _ _ _ _ _ (step.performs c.self.invariant.0.0 c.self.invariant.0.1))
    (advance_of_others c.args.run c.in_ok-told.told (advance_by (setup_over c.self.inside.config.now c.self.inside.over.world) c.self.inside.parts.transport c.go_on_here.new.transport c.self.inside.parts.runs c.go_on_here.new.runs c.in-Some.place c.args.run there.0 c.in_ok-told.field-0-0 c.in_ok-told.told there.1 there.3 step))

pub returns-clause-advanced : goal.returns-clause-advanced
returns-clause-advanced c =
    let there = c.in-Some.ensures.place in
    let step = c.in_ok-told.ensures.step in (
      advance_by (setup_over c.self.inside.config.now c.self.inside.over.world) c.self.inside.parts.transport c.go_on_here.new.transport c.self.inside.parts.runs c.go_on_here.new.runs c.in-Some.place c.args.run there.0 c.in_ok-told.field-0-0 c.in_ok-told.told there.1 there.3 step,
      rw (← c.self.view_is) (follows (setup_over c.self.inside.config.now c.self.inside.over.world) c.self.inside.parts.transport c.self.inside.parts.runs c.go_on_here.new.transport c.go_on_here.new.runs c.in_ok-told.told c.self.inside.tokens.items c.self.invariant
          (moved _ _ _ _ _ _ _ _ (step.performs c.self.invariant.0.0 c.self.invariant.0.1))),
    )
