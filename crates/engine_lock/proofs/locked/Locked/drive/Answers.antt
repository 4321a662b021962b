use Rattle.std.proofs.Common.{◌≡◌, ◌+◌, ◌-◌, ◌≤◌, ℕ, length, refl, ap, sym, subst, ◌∙◌, arith}
use Rattle.monitor.specs.LegalHistory.{StartsWith, records, unshared}
use Rattle.monitor.specs.Telling.{CallerState, KeeperState}
use Rattle.monitor.proofs.Histories.{longer}
use Rattle.engine_core.specs.EngineState.{EngineState}
use Rattle.engine_lock.specs.Driving.{Drives, EngineDrives}
use Rattle.engine_lock.specs.Sharing.{IsSince}
use Rattle.engine_lock.proofs.Driven.{Grown, counted, counts_up, drive_beyond, grown, looked, looked_once, no_more, published, published_once, records_then, seen_so, since_driven, since_same, unchanged, unchanged_once}
use Rattle.engine_lock.proofs.locked.Locked.drive.Goals as goal
use Rattle.engine_lock.proofs.locked.Locked.drive.Goals.{then-made-gt0, else-made-gt0+then-is_not_out, else-made-gt0+else-is_not_out}

pub overflow_sub-made : goal.overflow_sub-made
overflow_sub-made g c =
    let it = c.drive-driven in
    counts_up c.self.inside.engine it.new.self c.totals-known.result c.totals.result (grown c.self.inside.engine it.new.self c.args.run it.result it.ensures.ended it.ensures.back) c.totals-known.ensures.value c.totals.ensures.value

pub publish_beyond-requires-clause-setup : goal.publish_beyond-requires-clause-setup
publish_beyond-requires-clause-setup g c =
    let it = c.drive-driven in
    (grown c.self.inside.engine it.new.self c.args.run it.result it.ensures.ended it.ensures.back).setup_is ∙ c.self.invariant.0.setup_is

pub publish_beyond-requires-clause-beyond : goal.publish_beyond-requires-clause-beyond
publish_beyond-requires-clause-beyond g c =
    let it = c.drive-driven in
    drive_beyond c.self.inside.keeper.history c.self.inside.engine it.new.self c.self.invariant.4 (grown c.self.inside.engine it.new.self c.args.run it.result it.ensures.ended it.ensures.back)

pub invariant_of-self : goal.invariant_of-self
invariant_of-self g c =
    let h = c.self.invariant in
    let it = c.drive-driven in
    let old : EngineState = c.self.inside.engine in
    let more : Grown old it.new.self = grown old it.new.self c.args.run it.result it.ensures.ended it.ensures.back in
    let many : length it.new.self.history ≡ length old.history + (c.totals.result.history - c.totals-known.result.history) = counted old it.new.self c.totals-known.result c.totals.result more c.totals-known.ensures.value c.totals.ensures.value in
    elim c.if-made-gt0.branch [
      | then-made-gt0 w ↦ rw w.self-inside-is (
        subst (λ (n : ℕ). IsSince g.B.Origin.setup g.B.Origin.begun n it.new.self) (sym w.add.ensures.total)
            (since_driven g.B.Origin.setup g.B.Origin.begun c.self.inside.book.total (c.totals.result.history - c.totals-known.result.history) old it.new.self h.0 more many it.ensures.run),
        h.1,
        h.2,
        h.3,
        ap (λ (k : KeeperState). records k.history) w.publish_beyond.ensures.history ∙ records_then c.self.inside.keeper.history old it.new.self h.4 more c.caller.inside.part.number,
        ap (λ (k : KeeperState). k.callers) w.publish_beyond.ensures.history ∙ h.5,
        subst (λ (k : KeeperState). StartsWith k.history (unshared g.B.Origin.begun)) (sym w.publish_beyond.ensures.history) (longer c.self.inside.keeper.history (unshared g.B.Origin.begun) _ h.6),
      )
      | else-made-gt0+then-is_not_out w ↦ rw w.self-inside-is (
          let none : length it.new.self.history ≤ length old.history = omega (arith, many, w.if-made-gt0.false) in
          let same = no_more old it.new.self more none in (
            since_same g.B.Origin.setup g.B.Origin.begun c.self.inside.book.total old it.new.self h.0 more same it.ensures.run,
            h.1,
            h.2,
            h.3,
            ap (λ (k : KeeperState). records k.history) w.look.ensures.same ∙ (h.4 ∙ sym same),
            ap (λ (k : KeeperState). k.callers) w.look.ensures.same ∙ h.5,
            subst (λ (k : KeeperState). StartsWith k.history (unshared g.B.Origin.begun)) (sym w.look.ensures.same) h.6,
          ))
      | else-made-gt0+else-is_not_out w ↦ rw w.self-inside-is (
          let none : length it.new.self.history ≤ length old.history = omega (arith, many, w.if-made-gt0.false) in
          let same = no_more old it.new.self more none in (
            since_same g.B.Origin.setup g.B.Origin.begun c.self.inside.book.total old it.new.self h.0 more same it.ensures.run,
            h.1,
            h.2,
            h.3,
            h.4 ∙ sym same,
            h.5,
            h.6,
          ))
    ]

pub returns-clause-drives : goal.returns-clause-drives
returns-clause-drives g c =
    let h = c.self.invariant in
    let it = c.drive-driven in
    let old : EngineState = c.self.inside.engine in
    let more : Grown old it.new.self = grown old it.new.self c.args.run it.result it.ensures.ended it.ensures.back in
    let many : length it.new.self.history ≡ length old.history + (c.totals.result.history - c.totals-known.result.history) = counted old it.new.self c.totals-known.result c.totals.result more c.totals-known.ensures.value c.totals.ensures.value in
    elim c.if-made-gt0.branch [
      | then-made-gt0 w ↦ rw w.caller-is (
          subst (λ (before : CallerState). Drives g.B.Origin.setup c.args.run it.result before w.publish_beyond.new.part) c.caller.view_is
          (published g.B.Origin.setup c.self.inside.keeper.history old c.args.run c.caller.inside.part h.4 h.0.setup_is h.0.run it.new.self w.publish_beyond.new.part
          it.result it.ensures.ended it.ensures.admitted it.ensures.back (omega (arith, many, w.if-made-gt0.true)) w.publish_beyond.ensures.caller))
      | else-made-gt0+then-is_not_out w ↦ rw w.caller-is (
          subst (λ (before : CallerState). Drives g.B.Origin.setup c.args.run it.result before w.look.new.caller) c.caller.view_is
          (looked g.B.Origin.setup c.self.inside.keeper.history old c.args.run c.caller.inside.part h.4 h.0.setup_is h.0.run it.new.self w.look.new.caller
          it.result it.ensures.admitted it.ensures.back (sym w.is_not_out.ensures ∙ w.if-is_not_out.true) w.look.ensures.caller))
      | else-made-gt0+else-is_not_out w ↦ rw w.caller-is (
          unchanged g.B.Origin.setup c.self.inside.keeper.history old c.args.run c.args.caller.now h.4 h.0.setup_is h.0.run it.new.self c.args.caller.now
          it.result it.ensures.ended it.ensures.admitted it.ensures.back (sym w.is_not_out.ensures ∙ w.if-is_not_out.false) (omega (arith, many, w.if-made-gt0.false)))
    ]

pub returns-clause-once : goal.returns-clause-once
returns-clause-once g c =
    let h = c.self.invariant in
    let it = c.drive-driven in
    let old : EngineState = c.self.inside.engine in
    let e : EngineDrives old c.args.run it.result it.new.self = record { ended = it.ensures.ended; admitted = it.ensures.admitted; back = it.ensures.back } in
    let more : Grown old it.new.self = grown old it.new.self c.args.run it.result it.ensures.ended it.ensures.back in
    let many : length it.new.self.history ≡ length old.history + (c.totals.result.history - c.totals-known.result.history) = counted old it.new.self c.totals-known.result c.totals.result more c.totals-known.ensures.value c.totals.ensures.value in
    elim c.if-made-gt0.branch [
      | then-made-gt0 w ↦ rw (w.caller-is, w.self-inside-is) (
          seen_so g.B.Origin.setup c.args.run it.result _ _ _ _ _ _ c.self.view_is c.caller.view_is
          (published_once g.B.Origin.setup c.self.inside.keeper.history old c.args.run c.caller.inside.part h.4 h.0.setup_is h.0.run it.new.self it.result e c.self.inside.given c.self.inside.given
          w.publish_beyond.new.keeper.history w.publish_beyond.new.part (ap (λ (k : KeeperState). k.history) w.publish_beyond.ensures.history) (omega (arith, many, w.if-made-gt0.true)) w.publish_beyond.ensures.caller))
      | else-made-gt0+then-is_not_out w ↦ rw (w.caller-is, w.self-inside-is) (
          seen_so g.B.Origin.setup c.args.run it.result _ _ _ _ _ _ c.self.view_is c.caller.view_is
          (looked_once g.B.Origin.setup c.self.inside.keeper.history old c.args.run c.caller.inside.part h.4 h.0.setup_is h.0.run it.new.self it.result e c.self.inside.given c.self.inside.given
          w.look.new.self.history w.look.new.caller (ap (λ (k : KeeperState). k.history) w.look.ensures.same) (omega (arith, many, w.if-made-gt0.false)) (sym w.is_not_out.ensures ∙ w.if-is_not_out.true) w.look.ensures.caller))
      | else-made-gt0+else-is_not_out w ↦ rw (w.caller-is, w.self-inside-is) (
          seen_so g.B.Origin.setup c.args.run it.result _ _ _ c.args.caller.now _ _ c.self.view_is refl
          (unchanged_once g.B.Origin.setup c.self.inside.keeper.history old c.args.run c.args.caller.now h.4 h.0.setup_is h.0.run it.new.self it.result e c.self.inside.given c.self.inside.given
          (omega (arith, many, w.if-made-gt0.false)) (sym w.is_not_out.ensures ∙ w.if-is_not_out.false)))
    ]
