use Rattle.std.proofs.Common.{◌≡◌, ℕ, List, None, Contains, ap, sym, subst, ◌∙◌}
use Rattle.freeze_ledger.specs.declared.freeze.Freeze.{Freeze}
use Rattle.freeze_ledger.specs.Freezes.{entry_of, without}
use Rattle.world_calls.specs.declared.call.Call.TheVariants.{GuestRelease}
use Rattle.world_calls.specs.declared.record.Record.TheVariants.{Called}
use Rattle.engine_core.specs.ByNumber.{CannotFollow, NumberedState, guests_of}
use Rattle.engine_core.specs.Settings.{setup_over}
use Rattle.engine_core.proofs.Guests.{guest_among, guest_left}
use Rattle.engine_core.proofs.Performing.{releases}
use Rattle.engine_core.proofs.Numbered.{follows, its_tokens_rise, keeps_on, moved, no_release, state_of}
use Rattle.engine_core.proofs.numbered_engine.NumberedEngine.guest_release.Goals as goal

pub take_token-requires : goal.take_token-requires
take_token-requires c = its_tokens_rise (setup_over c.self.inside.config.now c.self.inside.over.world) c.self.inside.parts.transport c.self.inside.parts.runs c.self.inside.tokens.items c.self.invariant

-- no guest holds it

pub returns-in_err-token-clause-answered : goal.returns-in_err-token-clause-answered
returns-in_err-token-clause-answered c = rw c.from_residual.ensures (
  c.self.view_is,
  λ answer. subst (λ (s : NumberedState). CannotFollow s (Called answer (GuestRelease c.args.freeze))) c.self.view_is
      (no_release (state_of (setup_over c.self.inside.config.now c.self.inside.over.world) c.self.inside.parts.transport c.self.inside.parts.runs) c.args.freeze answer
      (subst (λ (ts : List Freeze). entry_of c.args.freeze ts ≡ None) c.self.invariant.1 c.in_err-token.ensures.none.1)),
)

-- a guest does

pub guest_release-count-requires : goal.guest_release-count-requires
guest_release-count-requires c =
    guest_among c.self.inside.parts.transport.freezes c.in_ok-token.token (subst (λ (ts : List Freeze). Contains ts c.in_ok-token.token) c.self.invariant.1 c.in_ok-token.ensures.taken.0)

pub invariant_of-self-2 : goal.invariant_of-self-2
invariant_of-self-2 c =
    let transport = c.self.inside.parts.transport in
    let taken = c.in_ok-token.ensures.taken in
    let there = guest_among transport.freezes c.in_ok-token.token (subst (λ (ts : List Freeze). Contains ts c.in_ok-token.token) c.self.invariant.1 taken.0) in
    let it = moved _ _ _ _ _ _ _ _ (releases c.in_ok-token.token transport c.guest_release-count.new.self c.args.freeze c.guest_release-count.result (sym taken.1) there.0 there.1 c.guest_release-count.ensures.freezes (λ setup world count. c.guest_release-count.ensures.step setup world) (setup_over c.self.inside.config.now c.self.inside.over.world) c.self.inside.parts.runs) in
    keeps_on (setup_over c.self.inside.config.now c.self.inside.over.world) transport c.self.inside.parts.runs c.guest_release-count.new.self c.self.inside.parts.runs _ c.self.inside.tokens.items c.take_token.new.tokens.items c.self.invariant it
    (taken.2
    ∙ (ap (without c.args.freeze) c.self.invariant.1
    ∙ (sym (guest_left c.args.freeze transport.freezes)
    ∙ (ap (λ (n : ℕ). guests_of (without n transport.freezes)) (sym taken.1) ∙ ap guests_of (sym c.guest_release-count.ensures.freezes)))))

pub returns-clause-answered : goal.returns-clause-answered
returns-clause-answered c =
    let transport = c.self.inside.parts.transport in
    let taken = c.in_ok-token.ensures.taken in
    let there = guest_among transport.freezes c.in_ok-token.token (subst (λ (ts : List Freeze). Contains ts c.in_ok-token.token) c.self.invariant.1 taken.0) in
    rw (← c.self.view_is) (follows (setup_over c.self.inside.config.now c.self.inside.over.world) transport c.self.inside.parts.runs c.guest_release-count.new.self c.self.inside.parts.runs _ c.self.inside.tokens.items c.self.invariant
    (moved _ _ _ _ _ _ _ _ (releases c.in_ok-token.token transport c.guest_release-count.new.self c.args.freeze c.guest_release-count.result (sym taken.1) there.0 there.1 c.guest_release-count.ensures.freezes (λ setup world count. c.guest_release-count.ensures.step setup world) (setup_over c.self.inside.config.now c.self.inside.over.world) c.self.inside.parts.runs)))
