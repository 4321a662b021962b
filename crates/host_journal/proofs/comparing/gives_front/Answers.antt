use Rattle.std.proofs.Common.{◌∙◌, ℕ, [], take, ap, inl, refl, subst}
use Rattle.std.specs.Io.KnownBytes.{Consumes}
use Rattle.host_recovery.specs.declared.source.ReadFailed.{ReadFailed}
use Rattle.host_journal.specs.Disks.{Failed, with_step}
use Rattle.host_journal.specs.declared.disk.DiskFault.TheVariants.{Failed as NotDone}
use Rattle.host_journal.specs.declared.fault.JournalFile.TheVariants.{Segment}
use Rattle.host_journal.proofs.Matching.{is_empty, matched_all, matched_first, matched_more, matched_none, matched_other, nonempty}
use Rattle.host_journal.proofs.comparing.gives_front.Goals as goal

pub loop-left-init : goal.loop-left-init
loop-left-init g c = record { held = refl; which = refl; steps = refl; matched = matched_first _ _ }

pub loop-left-preserved : goal.loop-left-preserved
loop-left-preserved g c = record {
  held = c.in-Ok.ensures.held ∙ c.loop-left.invariant.held;
  which = c.in-Ok.ensures.which ∙ c.loop-left.invariant.which;
  steps = c.in-Ok.ensures.steps ∙ c.loop-left.invariant.steps;
  matched = matched_more _ _ _ c.args.front.now c.loop-left.left.now (take c.in-Ok.count c.read.new.piece) c.in-Some.rest.now (nonempty c.loop-left.left.now c.loop-left-test.ensures) c.loop-left.invariant.matched c.in-Ok.ensures.gives.1 c.in-Some.ensures;
}

pub returns-then-count-eq0-clause-says : goal.returns-then-count-eq0-clause-says
returns-then-count-eq0-clause-says g c =
    let between = g.D.Disk.remaining c.loop-left.disk in
    let now = g.D.Disk.remaining c.read.new.self in
    let given : Consumes between now [] = subst (λ (n : ℕ). Consumes between now (take n c.read.new.piece)) c.if-count-eq0.true c.in-Ok.ensures.gives.1 in
    matched_none ReadFailed _ between now c.args.front.now c.loop-left.left.now (nonempty c.loop-left.left.now c.loop-left-test.ensures) c.loop-left.invariant.matched given (c.in-Ok.ensures.gives.2 c.if-count-eq0.true)

pub returns-in-None-clause-says : goal.returns-in-None-clause-says
returns-in-None-clause-says g c =
    matched_other ReadFailed _ _ _ c.args.front.now c.loop-left.left.now (take c.in-Ok.count c.read.new.piece) (nonempty c.loop-left.left.now c.loop-left-test.ensures) c.loop-left.invariant.matched c.in-Ok.ensures.gives.1 c.in-None.ensures

pub returns-clause-says : goal.returns-clause-says
returns-clause-says g c = matched_all ReadFailed _ _ c.args.front.now c.loop-left.left.now (is_empty c.loop-left.left.now c.loop-left-test.ensures) c.loop-left.invariant.matched

pub returns-in-Err-clause-steps : goal.returns-in-Err-clause-steps
returns-in-Err-clause-steps g c =
    inl (c.in-Err.ensures.steps ∙ (ap (λ steps. with_step steps (Failed (Segment (g.D.Disk.segment c.loop-left.disk)) NotDone)) c.loop-left.invariant.steps ∙ ap (λ (n : ℕ). with_step (g.D.Disk.steps c.args.disk.now) (Failed (Segment n) NotDone)) c.loop-left.invariant.which))
