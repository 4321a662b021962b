use Rattle.std.proofs.Common.{◌+◌, ◌≤◌, ◌∙◌, List, ap, arith, false, subst, sym, vec_len}
use Rattle.std.specs.Prelude.{vec_capacity}
use Rattle.engine_core.proofs.Answering.{on_ok}
use Rattle.host_embedding.specs.Fates.{KeepsFates, fate_of}
use Rattle.host_embedding.specs.Held.{out_of}
use Rattle.host_embedding.specs.declared.fates.Fate.TheVariants.{Kept}
use Rattle.host_embedding.specs.declared.fates.RunFate.{RunFate}
use Rattle.host_embedding.proofs.Beginning.{more}
use Rattle.host_embedding.proofs.Noting.{are_kept, driven_out, keeps_driven, spent_driven, tells_driven, tells_unasked}
use Rattle.host_embedding.proofs.Driving.{driven_guests, driven_records}
use Rattle.host_embedding.proofs.engine_handle.EngineHandle.drive.Goals as goal

-- ---- where there is no room

pub invariant_of-self : goal.invariant_of-self
invariant_of-self c = (
  c.self.invariant.0,
  c.self.invariant.1,
  subst (λ (its : List RunFate). KeepsFates its c.self.inside.engine.history) (sym c.reserve.ensures.items) c.self.invariant.2,
)

pub returns-then-is_err-clause-driven : goal.returns-then-is_err-clause-driven
returns-then-is_err-clause-driven c = rw (← c.self.view_is) c.not_driven-result.ensures.driven

pub returns-then-is_err-clause-fate : goal.returns-then-is_err-clause-fate
returns-then-is_err-clause-fate c =
    tells_unasked c.not_driven-result.result (out_of c.args.run.now.held) c.self.inside.engine c.out_number-number.result c.reserve.new.self.items Kept c.fate_of.result c.reported.result
    (spent_driven c.not_driven-result.result (out_of c.args.run.now.held) c.not_driven-result.new.run.held c.self.inside.engine c.self.inside.engine 0 false c.not_driven-result.ensures.driven) c.out_number-number.ensures c.not_driven-result.ensures.undone
    (subst (λ (its : List RunFate). KeepsFates its c.self.inside.engine.history) (sym c.reserve.ensures.items) c.self.invariant.2)
    (c.fate_of.ensures ∙ ap (fate_of c.out_number-number.result) c.as_slice.ensures.value) c.reported.ensures

-- ---- where the engine is asked

pub note-told-requires-clause-kept : goal.note-told-requires-clause-kept
note-told-requires-clause-kept c = (
    are_kept c.drive-result.result c.self.inside.engine c.drive-result.new.engine c.out_number-number.result c.recorded-was.result
    (driven_out c.drive-result.result (out_of c.args.run.now.held) c.drive-result.new.run.held c.self.inside.engine c.drive-result.new.engine c.drive-result.new.r0 c.drive-result.new.ended c.out_number-number.result c.out_number-number.ensures c.drive-result.ensures.driven)
    c.recorded-was.ensures c.taken.ensures.within).0

pub note-told-requires-clause-within : goal.note-told-requires-clause-within
note-told-requires-clause-within c = (
    are_kept c.drive-result.result c.self.inside.engine c.drive-result.new.engine c.out_number-number.result c.recorded-was.result
    (driven_out c.drive-result.result (out_of c.args.run.now.held) c.drive-result.new.run.held c.self.inside.engine c.drive-result.new.engine c.drive-result.new.r0 c.drive-result.new.ended c.out_number-number.result c.out_number-number.ensures c.drive-result.ensures.driven)
    c.recorded-was.ensures c.taken.ensures.within).1

pub note-told-requires-clause-room : goal.note-told-requires-clause-room
note-told-requires-clause-room c =
    let room : vec_len c.reserve.new.self + 1 ≤ vec_capacity c.reserve.new.self = on_ok c.reserve.result _ (sym c.is_err.ensures.value ∙ c.if-is_err.false) c.reserve.ensures.ok in
    omega (arith, room, c.reserve.new.self.ok.0)

pub invariant_of-self-2 : goal.invariant_of-self-2
invariant_of-self-2 c = (
  driven_guests c.drive-result.result (out_of c.args.run.now.held) c.drive-result.new.run.held c.self.inside.engine c.drive-result.new.engine c.drive-result.new.r0 c.drive-result.new.ended c.self.inside.tokens.items c.self.invariant.0 c.drive-result.ensures.driven,
  more c.self.inside.engine c.drive-result.new.engine c.self.inside.is_continued c.self.inside.lines.items c.self.invariant.1
      (driven_records c.drive-result.result (out_of c.args.run.now.held) c.drive-result.new.run.held c.self.inside.engine c.drive-result.new.engine c.drive-result.new.r0 c.drive-result.new.ended c.drive-result.ensures.driven),
  keeps_driven c.drive-result.result (out_of c.args.run.now.held) c.drive-result.new.run.held c.self.inside.engine c.drive-result.new.engine c.drive-result.new.r0 c.drive-result.new.ended c.out_number-number.result c.recorded-was.result c.reserve.new.self.items c.note-told.new.fates.items c.note-told.result
      c.out_number-number.ensures c.drive-result.ensures.driven c.recorded-was.ensures
      (subst (λ (its : List RunFate). KeepsFates its c.self.inside.engine.history) (sym c.reserve.ensures.items) c.self.invariant.2) c.note-told.ensures,
)

pub returns-clause-driven : goal.returns-clause-driven
returns-clause-driven c = rw (← c.self.view_is) c.drive-result.ensures.driven

pub returns-clause-fate : goal.returns-clause-fate
returns-clause-fate c =
    tells_driven c.drive-result.result (out_of c.args.run.now.held) c.drive-result.new.run.held c.self.inside.engine c.drive-result.new.engine c.drive-result.new.r0 c.drive-result.new.ended c.out_number-number.result c.recorded-was.result c.reserve.new.self.items c.note-told.new.fates.items c.note-told.result
    c.fate_of-2.result c.reported-2.result c.out_number-number.ensures c.drive-result.ensures.driven c.recorded-was.ensures
    (subst (λ (its : List RunFate). KeepsFates its c.self.inside.engine.history) (sym c.reserve.ensures.items) c.self.invariant.2) c.note-told.ensures
    (c.fate_of-2.ensures ∙ ap (fate_of c.out_number-number.result) c.as_slice-2.ensures.value) c.reported-2.ensures
