use Rattle.std.proofs.Common.{◌≡◌, List, [], ◌∷◌, ◌++◌, true, ap, sym, ◌∙◌}
use Rattle.freeze_ledger.specs.declared.freeze.Freeze.{Freeze}
use Rattle.world.specs.FreezeSteps.{is_guest}
use Rattle.engine_core.specs.ByNumber.{guests_of}
use Rattle.engine_core.specs.Settings.{setup_over}
use Rattle.engine_core.proofs.Guests.{guest_entered}
use Rattle.engine_core.proofs.Performing.{freezes, refuses_freeze}
use Rattle.engine_core.proofs.Numbered.{follows, keeps_on, moved}
use Rattle.engine_core.proofs.numbered_engine.NumberedEngine.guest_freeze.Goals as goal

pub invariant_of-self-in-Ok : goal.invariant_of-self-in-Ok
invariant_of-self-in-Ok c =
    let transport = c.self.inside.parts.transport in
    let it = moved _ _ _ _ _ _ _ _ (freezes (setup_over c.self.inside.config.now c.self.inside.over.world) c.args.place c.args.guest transport c.guest_freeze.new.self c.in-Ok.token c.number-number.result c.number-number.ensures c.in-Ok.ensures.token (λ world count. c.in-Ok.ensures.step (setup_over c.self.inside.config.now c.self.inside.over.world) world count (sym c.controllers.ensures.value)) c.self.inside.parts.runs) in
    let guests : is_guest c.in-Ok.token.holder ≡ true = ap is_guest c.in-Ok.ensures.token.1 in
    keeps_on (setup_over c.self.inside.config.now c.self.inside.over.world) transport c.self.inside.parts.runs c.guest_freeze.new.self c.self.inside.parts.runs _ c.self.inside.tokens.items c.push_reserved.new.self.items c.self.invariant it
    (c.push_reserved.ensures.items
    ∙ (ap (λ (ts : List Freeze). ts ++ c.new.result ∷ []) (c.in_ok-reserve.ensures.items ∙ c.self.invariant.1)
    ∙ (ap (λ (t : Freeze). guests_of transport.freezes ++ t ∷ []) c.new.ensures
    ∙ (sym (guest_entered transport.freezes c.in-Ok.token guests) ∙ ap guests_of (sym c.in-Ok.ensures.token.2)))))

pub returns-in-Ok-clause-answered : goal.returns-in-Ok-clause-answered
returns-in-Ok-clause-answered c =
    rw (← c.self.view_is) (follows (setup_over c.self.inside.config.now c.self.inside.over.world) c.self.inside.parts.transport c.self.inside.parts.runs c.guest_freeze.new.self c.self.inside.parts.runs _ c.self.inside.tokens.items c.self.invariant
    (moved _ _ _ _ _ _ _ _ (freezes (setup_over c.self.inside.config.now c.self.inside.over.world) c.args.place c.args.guest c.self.inside.parts.transport c.guest_freeze.new.self c.in-Ok.token c.number-number.result c.number-number.ensures c.in-Ok.ensures.token (λ world count. c.in-Ok.ensures.step (setup_over c.self.inside.config.now c.self.inside.over.world) world count (sym c.controllers.ensures.value)) c.self.inside.parts.runs)))

pub returns-in-Err-clause-answered : goal.returns-in-Err-clause-answered
returns-in-Err-clause-answered c =
    rw (← c.self.view_is) (follows (setup_over c.self.inside.config.now c.self.inside.over.world) c.self.inside.parts.transport c.self.inside.parts.runs c.guest_freeze.new.self c.self.inside.parts.runs _ c.self.inside.tokens.items c.self.invariant
    (moved _ _ _ _ _ _ _ _ (refuses_freeze (setup_over c.self.inside.config.now c.self.inside.over.world) c.args.place c.args.guest c.self.inside.parts.transport c.guest_freeze.new.self c.in-Err.refusal c.in-Err.ensures.refused (λ world count. c.in-Err.ensures.step (setup_over c.self.inside.config.now c.self.inside.over.world) world count (sym c.controllers.ensures.value)) c.self.inside.parts.runs)))
