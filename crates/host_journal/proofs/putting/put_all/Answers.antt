use Rattle.std.proofs.Common.{◌∙◌, ◌+◌, ℕ, false, List, ◌++◌, drop, take, refl, subst, sym, append-nil, arith}
use Rattle.std.proofs.lemmas.List.{take-append-drop, take_all}
use Rattle.trace.proofs.Printing.{taken_on}
use Rattle.host_journal.specs.Order.{At}
use Rattle.host_journal.specs.Disks.{IsNotOut, NotOut}
use Rattle.host_journal.proofs.Ordering.{at_loses, put_more}
use Rattle.host_journal.proofs.Quiet.{ends_on, ends_step, went_same, went_step, went_trans}
use Rattle.host_journal.proofs.Steps.{put_keeps, unput_keeps}
use Rattle.host_journal.proofs.putting.put_all.Goals as goal

pub loop-taken-init : goal.loop-taken-init
loop-taken-init g c = record {
  within = omega arith;
  which = refl;
  went = went_same (g.D.Disk.steps c.args.disk.now) (g.D.Disk.steps c.args.disk.now) refl;
  kept = refl;
  order = λ is_synced first kept synced out before at covered.
      subst (λ (t : List ℕ). At is_synced first before (g.D.Disk.steps c.args.disk.now) kept synced t false) (sym (append-nil out)) at;
}

pub loop-taken-preserved : goal.loop-taken-preserved
loop-taken-preserved g c =
    let on = taken_on c.args.text.now c.loop-taken.taken c.in-Ok.count c.loop-taken.invariant.within c.in-Ok.ensures.steps.1 in
    record {
      within = on.0;
      which = c.put.ensures.which ∙ c.loop-taken.invariant.which;
      went = went_trans (g.D.Disk.steps c.args.disk.now) (g.D.Disk.steps c.loop-taken.disk) (g.D.Disk.steps c.put.new.self) c.loop-taken.invariant.went (went_step (g.D.Disk.steps c.loop-taken.disk) (g.D.Disk.steps c.put.new.self) _ c.in-Ok.ensures.steps.2);
      kept = put_keeps (g.D.Disk.steps c.loop-taken.disk) (g.D.Disk.steps c.put.new.self) _ c.in-Ok.ensures.steps.2 ∙ c.loop-taken.invariant.kept;
      order = λ is_synced first kept synced out before at covered.
          put_more is_synced first before (g.D.Disk.steps c.loop-taken.disk) (g.D.Disk.steps c.put.new.self) kept synced out c.args.text.now (take c.loop-taken.taken c.args.text.now) _ _ (c.loop-taken.taken + c.in-Ok.count)
          (c.loop-taken.invariant.order is_synced first kept synced out before at covered) covered on.1 refl c.in-Ok.ensures.steps.2;
    }

pub returns-in-Err-clause-order : goal.returns-in-Err-clause-order
returns-in-Err-clause-order g c = λ is_synced first kept synced out before at covered. (
  take c.loop-taken.taken c.args.text.now,
  drop c.loop-taken.taken c.args.text.now,
  sym (take-append-drop c.loop-taken.taken c.args.text.now),
  at_loses is_synced first before (g.D.Disk.steps c.loop-taken.disk) (g.D.Disk.steps c.put.new.self) kept synced (out ++ take c.loop-taken.taken c.args.text.now) NotOut
      (c.loop-taken.invariant.order is_synced first kept synced out before at covered) tt c.in-Err.ensures.steps,
)

pub returns-in-Err-clause-lost : goal.returns-in-Err-clause-lost
returns-in-Err-clause-lost g c =
    ends_on IsNotOut (g.D.Disk.steps c.args.disk.now) (g.D.Disk.steps c.loop-taken.disk) (g.D.Disk.steps c.put.new.self) c.loop-taken.invariant.went
    (ends_step IsNotOut (g.D.Disk.steps c.loop-taken.disk) (g.D.Disk.steps c.put.new.self) NotOut tt c.in-Err.ensures.steps)

pub returns-in-Err-clause-kept : goal.returns-in-Err-clause-kept
returns-in-Err-clause-kept g c = unput_keeps (g.D.Disk.steps c.loop-taken.disk) (g.D.Disk.steps c.put.new.self) c.in-Err.ensures.steps ∙ c.loop-taken.invariant.kept

pub returns-clause-order : goal.returns-clause-order
returns-clause-order g c = λ is_synced first kept synced out before at covered.
    subst (λ (t : List ℕ). At is_synced first before (g.D.Disk.steps c.loop-taken.disk) kept synced (out ++ t) false) (take_all c.loop-taken.taken c.args.text.now c.loop-taken-test.false)
    (c.loop-taken.invariant.order is_synced first kept synced out before at covered)
