use Rattle.std.proofs.Common.{◌≡◌, ◌∙◌, ◌+◌, ℕ, refl, subst, sym, arith}
use Rattle.host_journal.specs.Audits.{FailsAt, IsReached}
use Rattle.host_journal.specs.Disks.{Held}
use Rattle.host_journal.proofs.Sound.{fails_at_on}
use Rattle.host_journal.proofs.Quiet.{quiet_same, quiet_trans, went_quiet}
use Rattle.host_journal.proofs.auditing.audit_before.Goals as goal

pub loop-number-init : goal.loop-number-init
loop-number-init g c = record { held = refl; quiet = quiet_same _ _ refl; reached = c.requires.reached }

pub loop-number-preserved : goal.loop-number-preserved
loop-number-preserved g c = record {
  held = c.pass.ensures.held ∙ c.loop-number.invariant.held;
  quiet = quiet_trans (g.D.Disk.steps c.args.disk.now) (g.D.Disk.steps c.loop-number.disk) (g.D.Disk.steps c.pass.new.disk) c.loop-number.invariant.quiet c.pass.ensures.quiet;
  reached = subst (λ (held : Held). IsReached held c.args.first (c.loop-number.number + 1) c.in-Ok.next) (sym c.pass.ensures.held) (c.in-Ok.ensures.reached c.args.first c.loop-number.invariant.reached);
}

pub returns-clause-reached : goal.returns-clause-reached
returns-clause-reached g c =
    let all : c.loop-number.number ≡ c.args.last = omega (arith, c.loop-number-test.false, c.loop-number.auto.number-end, c.requires.some) in
    subst (λ (n : ℕ). IsReached (g.D.Disk.held c.args.disk.now) c.args.first n c.loop-number.reached) all
    (subst (λ (held : Held). IsReached held c.args.first c.loop-number.number c.loop-number.reached) c.loop-number.invariant.held c.loop-number.invariant.reached)

pub returns-in-Err-clause-refused : goal.returns-in-Err-clause-refused
returns-in-Err-clause-refused g c =
    subst (λ (held : Held). FailsAt held c.args.first c.args.last (g.D.Disk.steps c.args.disk.now) (g.D.Disk.steps c.pass.new.disk) c.in-Err.error) c.loop-number.invariant.held
    (fails_at_on (g.D.Disk.held c.loop-number.disk) c.args.first c.args.last (g.D.Disk.steps c.args.disk.now) (g.D.Disk.steps c.loop-number.disk) (g.D.Disk.steps c.pass.new.disk) c.in-Err.error
    (went_quiet (g.D.Disk.steps c.args.disk.now) (g.D.Disk.steps c.loop-number.disk) c.loop-number.invariant.quiet) (c.in-Err.ensures.refused c.args.first c.loop-number.invariant.reached))
