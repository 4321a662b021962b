use Rattle.std.proofs.Common.{◌∙◌, ℕ, [], take, ap, inl, inr, subst, sym, arith, length-take-le}
use Rattle.std.specs.Io.KnownBytes.{Consumes}
use Rattle.host_journal.specs.Disks.{Failed, with_step}
use Rattle.host_journal.specs.declared.disk.DiskFault.TheVariants.{Failed as NotDone}
use Rattle.host_journal.specs.declared.fault.JournalFile.TheVariants.{Segment}
use Rattle.host_journal.proofs.LastLine.{followed_end, followed_more, followed_too_far}
use Rattle.host_journal.proofs.last_line.ends_so.Goals as goal

pub returns-then-count-eq0-clause-says : goal.returns-then-count-eq0-clause-says
returns-then-count-eq0-clause-says g c =
    let from = g.D.Disk.remaining c.args.disk.now in
    let between = g.D.Disk.remaining c.loop-came.disk in
    let now = g.D.Disk.remaining c.read.new.self in
    let given : Consumes between now [] = subst (λ (n : ℕ). Consumes between now (take n c.read.new.piece)) c.if-count-eq0.true c.in-Ok.ensures.gives.1 in
    followed_end _ from between now c.loop-came.last.line c.loop-came.last.is_long c.loop-came.last.is_end _ c.loop-came.came c.loop-came.invariant.so_far given (c.in-Ok.ensures.gives.2 c.if-count-eq0.true) c.is_whole.ensures

pub returns-in-Err-clause-steps : goal.returns-in-Err-clause-steps
returns-in-Err-clause-steps g c = inl (c.in-Err.ensures.steps ∙ (ap (λ steps. with_step steps (Failed (Segment (g.D.Disk.segment c.loop-came.disk)) NotDone)) c.loop-came.invariant.steps ∙ ap (λ (n : ℕ). with_step (g.D.Disk.steps c.args.disk.now) (Failed (Segment n) NotDone)) c.loop-came.invariant.which))

pub returns-clause-steps : goal.returns-clause-steps
returns-clause-steps g c =
    inr (c.loop-came.invariant.steps, followed_too_far (g.D.Disk.remaining c.args.disk.now) (g.D.Disk.remaining c.loop-came.disk) c.loop-came.last.line c.loop-came.last.is_long c.loop-came.last.is_end c.loop-came.came c.loop-came.invariant.so_far (omega (arith, c.loop-came-test.false)))

pub loop-came-preserved : goal.loop-came-preserved
loop-came-preserved g c = record {
  held = c.in-Ok.ensures.held ∙ c.loop-came.invariant.held;
  which = c.read.ensures.which ∙ c.loop-came.invariant.which;
  steps = c.in-Ok.ensures.steps ∙ c.loop-came.invariant.steps;
  so_far = followed_more (g.D.Disk.remaining c.args.disk.now) (g.D.Disk.remaining c.loop-came.disk) (g.D.Disk.remaining c.read.new.self) c.loop-came.last.line c.take.new.self.line c.loop-came.last.is_long c.loop-came.last.is_end
      c.take.new.self.is_long c.take.new.self.is_end c.loop-came.came c.in-Ok.count (take c.in-Ok.count c.read.new.piece) c.loop-came.invariant.so_far c.in-Ok.ensures.gives.1 (sym (length-take-le c.in-Ok.count c.read.new.piece c.in-Ok.ensures.gives.0))
      c.take.ensures;
}
