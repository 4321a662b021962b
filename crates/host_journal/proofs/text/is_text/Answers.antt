use Rattle.std.proofs.Common.{◌≡◌, ◌∙◌, ◌+◌, ◌==◌, ℕ, List, [], ◌++◌, length, take, drop, ap, inl, inr, subst, sym, arith, length-drop, length-take-le}
use Rattle.std.specs.Io.KnownBytes.{Consumes}
use Rattle.host_journal.specs.Disks.{Failed, with_step}
use Rattle.host_journal.specs.declared.disk.DiskFault.TheVariants.{Failed as NotDone}
use Rattle.host_journal.specs.declared.fault.JournalFile.TheVariants.{Segment}
use Rattle.host_journal.specs.Texts.{IsBad, IsCutAt}
use Rattle.host_journal.proofs.Utf8.{IsReadSo, read_more, read_none, read_too_far, said_bad, said_end}
use Rattle.host_journal.proofs.text.is_text.Goals as goal

pub returns-then-count-eq0-clause-says : goal.returns-then-count-eq0-clause-says
returns-then-count-eq0-clause-says g c =
    let from = g.D.Disk.remaining c.args.disk.now in
    let between = g.D.Disk.remaining c.loop-came.disk in
    let now = g.D.Disk.remaining c.read.new.self in
    let given : Consumes between now [] = subst (λ (n : ℕ). Consumes between now (take n c.read.new.piece)) c.if-count-eq0.true c.in-Ok.ensures.gives.1 in
    said_end _ from now c.loop-came.waiting c.loop-came.came _ (read_none from between now c.loop-came.waiting c.loop-came.came c.loop-came.invariant.so_far given) (c.in-Ok.ensures.gives.2 c.if-count-eq0.true) (ap (λ (n : ℕ). n == 0) c.len.ensures.count)

pub returns-in-None-clause-says : goal.returns-in-None-clause-says
returns-in-None-clause-says g c =
    said_bad _ (g.D.Disk.remaining c.args.disk.now) (g.D.Disk.remaining c.loop-came.disk) (g.D.Disk.remaining c.read.new.self) c.loop-came.waiting (take c.in-Ok.count c.read.new.piece) c.loop-came.came c.loop-came.invariant.so_far
    c.in-Ok.ensures.gives.1 (subst (λ (bytes : List ℕ). IsBad bytes) (c.as_slice.ensures.bytes ∙ c.put.ensures) c.in-None.ensures)

pub returns-in-Err-clause-steps : goal.returns-in-Err-clause-steps
returns-in-Err-clause-steps g c = inl (c.in-Err.ensures.steps ∙ (ap (λ steps. with_step steps (Failed (Segment (g.D.Disk.segment c.loop-came.disk)) NotDone)) c.loop-came.invariant.steps ∙ ap (λ (n : ℕ). with_step (g.D.Disk.steps c.args.disk.now) (Failed (Segment n) NotDone)) c.loop-came.invariant.which))

pub returns-clause-steps : goal.returns-clause-steps
returns-clause-steps g c = inr (c.loop-came.invariant.steps, read_too_far (g.D.Disk.remaining c.args.disk.now) (g.D.Disk.remaining c.loop-came.disk) c.loop-came.waiting c.loop-came.came c.loop-came.invariant.so_far (omega (arith, c.loop-came-test.false)))

pub loop-came-preserved : goal.loop-came-preserved
loop-came-preserved g c =
    let bytes : List ℕ = c.loop-came.waiting ++ take c.in-Ok.count c.read.new.piece in
    let cut : IsCutAt bytes c.in-Some.whole = subst (λ (bytes : List ℕ). IsCutAt bytes c.in-Some.whole) (c.as_slice.ensures.bytes ∙ c.put.ensures) c.in-Some.ensures in
    let rest : c.drop_front.new.text ≡ drop c.in-Some.whole bytes = c.drop_front.ensures ∙ ap (λ (bytes : List ℕ). drop c.in-Some.whole bytes) c.put.ensures in
    record {
      held = c.in-Ok.ensures.held ∙ c.loop-came.invariant.held;
      which = c.read.ensures.which ∙ c.loop-came.invariant.which;
      steps = c.in-Ok.ensures.steps ∙ c.loop-came.invariant.steps;
      few = omega (arith, ap (length {A = ℕ}) rest, length-drop c.in-Some.whole bytes, cut.few);
      so_far = subst (λ (waiting : List ℕ). IsReadSo (g.D.Disk.remaining c.args.disk.now) (g.D.Disk.remaining c.read.new.self) waiting (c.loop-came.came + c.in-Ok.count)) (sym rest)
          (read_more (g.D.Disk.remaining c.args.disk.now) (g.D.Disk.remaining c.loop-came.disk) (g.D.Disk.remaining c.read.new.self) c.loop-came.waiting (take c.in-Ok.count c.read.new.piece) c.in-Some.whole c.loop-came.came c.in-Ok.count
          c.loop-came.invariant.so_far c.in-Ok.ensures.gives.1 (sym (length-take-le c.in-Ok.count c.read.new.piece c.in-Ok.ensures.gives.0)) cut);
    }
