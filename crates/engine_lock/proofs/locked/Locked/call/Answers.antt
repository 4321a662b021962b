use Rattle.std.proofs.Common.{ℕ, List, refl, ap, sym, subst, ◌∙◌}
use Rattle.monitor.specs.declared.knowledge.Pair.{Pair}
use Rattle.monitor.specs.LegalHistory.{StartsWith, records, unshared}
use Rattle.monitor.specs.Telling.{CallerState, KeeperState}
use Rattle.monitor.proofs.Histories.{longer, records_more}
use Rattle.world.specs.World.{Setup}
use Rattle.engine_core.specs.Replies.{IsOfKnown}
use Rattle.engine_lock.specs.Sharing.{IsSince, LockedState, Section, Tells}
use Rattle.engine_lock.proofs.Histories.{answered_so, call_beyond, section_of, tells_made, tells_nothing, tells_unfit}
use Rattle.engine_lock.proofs.Since.{since_more}
use Rattle.engine_lock.proofs.locked.Locked.call.Goals as goal

pub answer_known-reply-requires : goal.answer_known-reply-requires
answer_known-reply-requires g c = subst (λ (setup : Setup). IsOfKnown setup c.args.event c.args.known) (sym c.self.invariant.0.setup_is) c.requires

pub publish_beyond-requires-clause-beyond : goal.publish_beyond-requires-clause-beyond
publish_beyond-requires-clause-beyond g c =
    call_beyond c.self.inside.keeper.history c.self.inside.engine c.answer_known-reply.new.self c.args.event c.answer_known-reply.result c.answer_known-reply.ensures.fits
    (sym c.is_recorded.ensures ∙ c.if-is_recorded.true) c.answer_known-reply.ensures.recorded c.self.invariant.4

pub invariant_of-self : goal.invariant_of-self
invariant_of-self g c =
    let h = c.self.invariant in (
      subst (λ (n : ℕ). IsSince g.B.Origin.setup g.B.Origin.begun n c.answer_known-reply.new.self) (sym c.add.ensures.total)
          (since_more g.B.Origin.setup g.B.Origin.begun c.self.inside.book.total c.self.inside.engine c.answer_known-reply.new.self c.args.event c.answer_known-reply.result h.0 c.answer_known-reply.ensures.fits
          (sym c.is_recorded.ensures ∙ c.if-is_recorded.true) c.answer_known-reply.ensures.recorded c.answer_known-reply.ensures.run),
      h.1,
      h.2,
      h.3,
      ap (λ (k : KeeperState). records k.history) c.publish_beyond.ensures.history
          ∙ (records_more c.self.inside.keeper.history _ _
          ∙ sym (call_beyond c.self.inside.keeper.history c.self.inside.engine c.answer_known-reply.new.self c.args.event c.answer_known-reply.result c.answer_known-reply.ensures.fits
          (sym c.is_recorded.ensures ∙ c.if-is_recorded.true) c.answer_known-reply.ensures.recorded h.4)),
      ap (λ (k : KeeperState). k.callers) c.publish_beyond.ensures.history ∙ h.5,
      subst (λ (k : KeeperState). StartsWith k.history (unshared g.B.Origin.begun)) (sym c.publish_beyond.ensures.history) (longer c.self.inside.keeper.history (unshared g.B.Origin.begun) _ h.6),
    )

pub returns-then-is_recorded-clause-answers : goal.returns-then-is_recorded-clause-answers
returns-then-is_recorded-clause-answers g c =
    let it = c.answer_known-reply in
    answered_so c.self.inside.engine c.args.self.now.engine (ap (λ (l : LockedState). l.engine) c.self.view_is) c.args.event it.result it.new.self it.ensures.recorded it.ensures.fits it.ensures.fit it.ensures.gives

pub returns-then-is_unfit-clause-answers : goal.returns-then-is_unfit-clause-answers
returns-then-is_unfit-clause-answers g c =
    let it = c.answer_known-reply in
    answered_so c.self.inside.engine c.args.self.now.engine (ap (λ (l : LockedState). l.engine) c.self.view_is) c.args.event it.result it.new.self it.ensures.recorded it.ensures.fits it.ensures.fit it.ensures.gives

pub returns-else-is_unfit-clause-answers : goal.returns-else-is_unfit-clause-answers
returns-else-is_unfit-clause-answers g c =
    let it = c.answer_known-reply in
    answered_so c.self.inside.engine c.args.self.now.engine (ap (λ (l : LockedState). l.engine) c.self.view_is) c.args.event it.result it.new.self it.ensures.recorded it.ensures.fits it.ensures.fit it.ensures.gives

pub returns-then-is_recorded-clause-section : goal.returns-then-is_recorded-clause-section
returns-then-is_recorded-clause-section g c =
    let it = c.answer_known-reply in
    subst (λ (before : CallerState). Section g.B.Origin.setup c.args.event it.result before c.publish_beyond.new.part) c.caller.view_is
    (section_of g.B.Origin.setup g.B.Origin.begun c.self.inside.book.total c.self.inside.engine it.new.self c.self.inside.keeper.history c.args.event it.result _ _
    c.self.invariant.0 c.self.invariant.4 it.ensures.recorded it.ensures.fits it.ensures.fit it.ensures.gives
    (tells_made c.self.inside.keeper.history c.self.inside.engine it.new.self c.args.event it.result it.ensures.fits
    (sym c.is_recorded.ensures ∙ c.if-is_recorded.true) it.ensures.recorded c.self.invariant.4 g.B.Origin.setup c.self.invariant.0.setup_is c.self.inside.keeper.history _ _ c.publish_beyond.ensures.caller))

pub returns-then-is_unfit-clause-section : goal.returns-then-is_unfit-clause-section
returns-then-is_unfit-clause-section g c =
    let it = c.answer_known-reply in
    subst (λ (before : CallerState). Section g.B.Origin.setup c.args.event it.result before c.look.new.caller) c.caller.view_is
    (section_of g.B.Origin.setup g.B.Origin.begun c.self.inside.book.total c.self.inside.engine it.new.self c.self.inside.keeper.history c.args.event it.result _ _
    c.self.invariant.0 c.self.invariant.4 it.ensures.recorded it.ensures.fits it.ensures.fit it.ensures.gives
    (tells_unfit g.B.Origin.setup c.self.inside.keeper.history c.args.event it.result _ _ (sym c.is_unfit.ensures ∙ c.if-is_unfit.true) c.look.ensures.caller))

pub returns-else-is_unfit-clause-section : goal.returns-else-is_unfit-clause-section
returns-else-is_unfit-clause-section g c =
    let it = c.answer_known-reply in
    section_of g.B.Origin.setup g.B.Origin.begun c.self.inside.book.total c.self.inside.engine it.new.self c.self.inside.keeper.history c.args.event it.result _ _
    c.self.invariant.0 c.self.invariant.4 it.ensures.recorded it.ensures.fits it.ensures.fit it.ensures.gives
    (tells_nothing g.B.Origin.setup c.self.inside.keeper.history c.args.event it.result _ _ (sym c.is_recorded.ensures ∙ c.if-is_recorded.false) (sym c.is_unfit.ensures ∙ c.if-is_unfit.false) refl)

pub returns-then-is_recorded-clause-tells : goal.returns-then-is_recorded-clause-tells
returns-then-is_recorded-clause-tells g c =
    let it = c.answer_known-reply in
    subst (λ (h : List Pair). Tells g.B.Origin.setup h c.args.event it.result c.args.caller.now c.publish_beyond.new.part) (ap (λ (l : LockedState). l.history) c.self.view_is)
    (subst (λ (before : CallerState). Tells g.B.Origin.setup c.self.inside.keeper.history c.args.event it.result before c.publish_beyond.new.part) c.caller.view_is
    (tells_made c.self.inside.keeper.history c.self.inside.engine it.new.self c.args.event it.result it.ensures.fits
    (sym c.is_recorded.ensures ∙ c.if-is_recorded.true) it.ensures.recorded c.self.invariant.4 g.B.Origin.setup c.self.invariant.0.setup_is c.self.inside.keeper.history _ _ c.publish_beyond.ensures.caller))

pub returns-then-is_unfit-clause-tells : goal.returns-then-is_unfit-clause-tells
returns-then-is_unfit-clause-tells g c =
    let it = c.answer_known-reply in
    subst (λ (h : List Pair). Tells g.B.Origin.setup h c.args.event it.result c.args.caller.now c.look.new.caller) (ap (λ (l : LockedState). l.history) c.self.view_is)
    (subst (λ (before : CallerState). Tells g.B.Origin.setup c.self.inside.keeper.history c.args.event it.result before c.look.new.caller) c.caller.view_is
    (tells_unfit g.B.Origin.setup c.self.inside.keeper.history c.args.event it.result _ _ (sym c.is_unfit.ensures ∙ c.if-is_unfit.true) c.look.ensures.caller))

pub returns-else-is_unfit-clause-tells : goal.returns-else-is_unfit-clause-tells
returns-else-is_unfit-clause-tells g c =
    let it = c.answer_known-reply in
    tells_nothing g.B.Origin.setup c.args.self.now.history c.args.event it.result _ _ (sym c.is_recorded.ensures ∙ c.if-is_recorded.false) (sym c.is_unfit.ensures ∙ c.if-is_unfit.false) refl
