use Rattle.std.proofs.Common.{◌+◌, ◌≤◌, ◌∙◌, List, ap, arith, subst, sym, vec_len}
use Rattle.std.specs.Prelude.{vec_capacity}
use Rattle.engine_core.proofs.Answering.{on_ok}
use Rattle.host_embedding.specs.Fates.{KeepsFates, fate_of}
use Rattle.host_embedding.specs.Held.{out_of}
use Rattle.host_embedding.specs.declared.fates.Fate.TheVariants.{Kept}
use Rattle.host_embedding.specs.declared.fates.RunFate.{RunFate}
use Rattle.host_embedding.proofs.Beginning.{more}
use Rattle.host_embedding.proofs.Noting.{are_kept, goes_advanced, keeps_advanced, spent_advanced, tells_advanced, tells_unasked}
use Rattle.host_embedding.proofs.Taking.{taken_guests, taken_records}
use Rattle.host_embedding.proofs.engine_handle.EngineHandle.advance.Goals as goal

-- ---- where there is no room

pub invariant_of-self : goal.invariant_of-self
invariant_of-self c = (
  c.self.invariant.0,
  c.self.invariant.1,
  subst (λ (its : List RunFate). KeepsFates its c.self.inside.engine.history) (sym c.reserve.ensures.items) c.self.invariant.2,
)

pub returns-then-is_err-clause-recorded : goal.returns-then-is_err-clause-recorded
returns-then-is_err-clause-recorded c = rw (← c.self.view_is) (c.not_advanced-result.ensures.recorded c.args.r0.now c.args.ended.now)

pub returns-then-is_err-clause-fate : goal.returns-then-is_err-clause-fate
returns-then-is_err-clause-fate c =
    tells_unasked c.not_advanced-result.result (out_of c.args.run.now.held) c.self.inside.engine c.out_number-number.result c.reserve.new.self.items Kept c.fate_of.result c.reported.result
    (spent_advanced c.not_advanced-result.result c.args.run.now.held c.not_advanced-result.new.run.held c.self.inside.engine c.self.inside.engine c.args.r0.now c.args.ended.now (c.not_advanced-result.ensures.recorded c.args.r0.now c.args.ended.now)) c.out_number-number.ensures c.not_advanced-result.ensures.undone
    (subst (λ (its : List RunFate). KeepsFates its c.self.inside.engine.history) (sym c.reserve.ensures.items) c.self.invariant.2)
    (c.fate_of.ensures ∙ ap (fate_of c.out_number-number.result) c.as_slice.ensures.value) c.reported.ensures

-- ---- where the engine is asked

pub note-told-requires-clause-kept : goal.note-told-requires-clause-kept
note-told-requires-clause-kept c = (
    are_kept c.advance-result.result c.self.inside.engine c.advance-result.new.engine c.out_number-number.result c.recorded-was.result
    (goes_advanced c.advance-result.result c.args.run.now.held c.advance-result.new.run.held c.self.inside.engine c.advance-result.new.engine c.advance-result.new.r0 c.advance-result.new.ended c.out_number-number.result c.out_number-number.ensures c.advance-result.ensures.recorded)
    c.recorded-was.ensures c.taken.ensures.within).0

pub note-told-requires-clause-within : goal.note-told-requires-clause-within
note-told-requires-clause-within c = (
    are_kept c.advance-result.result c.self.inside.engine c.advance-result.new.engine c.out_number-number.result c.recorded-was.result
    (goes_advanced c.advance-result.result c.args.run.now.held c.advance-result.new.run.held c.self.inside.engine c.advance-result.new.engine c.advance-result.new.r0 c.advance-result.new.ended c.out_number-number.result c.out_number-number.ensures c.advance-result.ensures.recorded)
    c.recorded-was.ensures c.taken.ensures.within).1

pub note-told-requires-clause-room : goal.note-told-requires-clause-room
note-told-requires-clause-room c =
    let room : vec_len c.reserve.new.self + 1 ≤ vec_capacity c.reserve.new.self = on_ok c.reserve.result _ (sym c.is_err.ensures.value ∙ c.if-is_err.false) c.reserve.ensures.ok in
    omega (arith, room, c.reserve.new.self.ok.0)

pub invariant_of-self-2 : goal.invariant_of-self-2
invariant_of-self-2 c = (
  taken_guests c.advance-result.result c.args.run.now.held c.advance-result.new.run.held c.self.inside.engine c.advance-result.new.engine c.advance-result.new.r0 c.advance-result.new.ended c.self.inside.tokens.items c.self.invariant.0 c.advance-result.ensures.recorded,
  more c.self.inside.engine c.advance-result.new.engine c.self.inside.is_continued c.self.inside.lines.items c.self.invariant.1
      (taken_records c.advance-result.result c.args.run.now.held c.advance-result.new.run.held c.self.inside.engine c.advance-result.new.engine c.advance-result.new.r0 c.advance-result.new.ended c.advance-result.ensures.recorded),
  keeps_advanced c.advance-result.result c.args.run.now.held c.advance-result.new.run.held c.self.inside.engine c.advance-result.new.engine c.advance-result.new.r0 c.advance-result.new.ended c.out_number-number.result c.recorded-was.result c.reserve.new.self.items c.note-told.new.fates.items c.note-told.result
      c.out_number-number.ensures c.advance-result.ensures.recorded c.recorded-was.ensures
      (subst (λ (its : List RunFate). KeepsFates its c.self.inside.engine.history) (sym c.reserve.ensures.items) c.self.invariant.2) c.note-told.ensures,
)

pub returns-clause-recorded : goal.returns-clause-recorded
returns-clause-recorded c = rw (← c.self.view_is) c.advance-result.ensures.recorded

pub returns-clause-fate : goal.returns-clause-fate
returns-clause-fate c =
    tells_advanced c.advance-result.result c.args.run.now.held c.advance-result.new.run.held c.self.inside.engine c.advance-result.new.engine c.advance-result.new.r0 c.advance-result.new.ended c.out_number-number.result c.recorded-was.result c.reserve.new.self.items c.note-told.new.fates.items c.note-told.result
    c.fate_of-2.result c.reported-2.result c.out_number-number.ensures c.advance-result.ensures.recorded c.recorded-was.ensures
    (subst (λ (its : List RunFate). KeepsFates its c.self.inside.engine.history) (sym c.reserve.ensures.items) c.self.invariant.2) c.note-told.ensures
    (c.fate_of-2.ensures ∙ ap (fate_of c.out_number-number.result) c.as_slice-2.ensures.value) c.reported-2.ensures
