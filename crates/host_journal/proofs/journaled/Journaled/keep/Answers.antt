use Rattle.std.proofs.Common.{◌∙◌, ◌+◌, ◌-◌, nat_eq, ℕ, true, Some, List, length-take-le, take, get_or, ap, subst, sym}
use Rattle.std.proofs.lemmas.Bool.{eqb-true}
use Rattle.std.specs.Io.KnownBytes.{Appends}
use Rattle.trace.specs.Sinks.{HasFailed}
use Rattle.host_journal.specs.Disks.{Failed, kept_so_far}
use Rattle.host_journal.specs.Journals.{JournaledState, Stands}
use Rattle.host_journal.specs.declared.answered.Answered.{Answered}
use Rattle.host_journal.specs.declared.lost.Lost.TheVariants.{OutOfMemory}
use Rattle.host_journal.specs.declared.disk.DiskFault.TheVariants.{Failed as NotDone}
use Rattle.host_journal.specs.declared.fault.JournalFile.TheVariants.{Segment}
use Rattle.host_journal.proofs.Standing.{ends_line, has_none, segment_lost, stands_kept, stands_kept_lost, stands_loses}
use Rattle.host_journal.proofs.Steps.{failed_keeps, kept_more, stays_kept}
use Rattle.host_journal.proofs.journaled.Journaled.keep.Goals as goal

pub invariant_of-self : goal.invariant_of-self
invariant_of-self g c =
    let text = c.args.text.now in
    let more = take c.in-Ok.count text in
    let ends = nat_eq (get_or text (c.in-Ok.count - 1) 0) 10 in
    let stands = stands_kept g.O.Order.is_synced g.O.Order.first g.O.Order.before (g.D.Disk.steps c.self.inside.disk) (g.D.Disk.steps c.keep.new.self) c.self.inside.pending.items more c.self.inside.answered.given c.self.inside.answered.place (c.self.inside.answered.place + c.in-Ok.count) c.self.inside.lost
    c.self.inside.is_behind c.self.inside.is_at_line ends c.self.invariant.0 (ap (λ (s : JournaledState). s.lost) c.self.view_is ∙ c.requires.unlost) c.in-Ok.ensures.steps.2 (ap (λ (n : ℕ). c.self.inside.answered.place + n) (sym (length-take-le c.in-Ok.count text c.in-Ok.ensures.steps.1)))
    (λ e before. ends_line before text c.in-Ok.count c.in-Ok.ensures.steps.0 c.in-Ok.ensures.steps.1 (eqb-true (get_or text (c.in-Ok.count - 1) 0) 10 e)) in (
      subst (λ (a : Answered). Stands g.O.Order.is_synced g.O.Order.first g.O.Order.before (g.D.Disk.steps c.keep.new.self) c.extend_from_slice.new.self.items a.given a.place c.self.inside.lost true ends) (sym c.after-self-inside.ensures)
          (subst (λ (t : List ℕ). Stands g.O.Order.is_synced g.O.Order.first g.O.Order.before (g.D.Disk.steps c.keep.new.self) t c.self.inside.answered.given (c.self.inside.answered.place + c.in-Ok.count) c.self.inside.lost true ends) (sym {A = List ℕ} c.in-Ok-extend_from_slice.ensures.items) stands),
      c.self.invariant.1,
      c.keep.ensures.which ∙ c.self.invariant.2,
      has_none g.O.Order.segment g.O.Order.before (g.D.Disk.steps c.keep.new.self) c.self.inside.lost (ap (λ (s : JournaledState). s.lost) c.self.view_is ∙ c.requires.unlost),
    )

pub invariant_of-self-in-Err-extend_from_slice : goal.invariant_of-self-in-Err-extend_from_slice
invariant_of-self-in-Err-extend_from_slice g c = (
  subst (λ (a : Answered). Stands g.O.Order.is_synced g.O.Order.first g.O.Order.before (g.D.Disk.steps c.keep.new.self) c.extend_from_slice.new.self.items a.given a.place (Some OutOfMemory) true (nat_eq (get_or c.args.text.now (c.in-Ok.count - 1) 0) 10)) (sym c.after-self-inside.ensures)
      (stands_kept_lost g.O.Order.is_synced g.O.Order.first g.O.Order.before (g.D.Disk.steps c.self.inside.disk) (g.D.Disk.steps c.keep.new.self) c.self.inside.pending.items (take c.in-Ok.count c.args.text.now)
      c.extend_from_slice.new.self.items c.self.inside.answered.given c.self.inside.answered.place (c.self.inside.answered.place + c.in-Ok.count) c.self.inside.lost c.self.inside.is_behind c.self.inside.is_at_line true (nat_eq (get_or c.args.text.now (c.in-Ok.count - 1) 0) 10) c.self.invariant.0 (ap (λ (s : JournaledState). s.lost) c.self.view_is ∙ c.requires.unlost) c.in-Ok.ensures.steps.2),
  c.self.invariant.1,
  c.keep.ensures.which ∙ c.self.invariant.2,
  tt,
)

pub returns-in-Ok-extend_from_slice : goal.returns-in-Ok-extend_from_slice
returns-in-Ok-extend_from_slice g c = record {
  answers = ap (λ (a : Answered). a.given) c.after-self-inside.ensures ∙ ap (λ (s : JournaledState). s.answers) c.self.view_is;
  taken = (
    c.in-Ok.ensures.steps.0,
    c.in-Ok.ensures.steps.1,
    subst (λ (s : JournaledState). Appends (kept_so_far s.steps) (kept_so_far (g.D.Disk.steps c.keep.new.self)) (take c.in-Ok.count c.args.text.now)) c.self.view_is
        (kept_more (g.D.Disk.steps c.self.inside.disk) (g.D.Disk.steps c.keep.new.self) (take c.in-Ok.count c.args.text.now) c.in-Ok.ensures.steps.2),
    ap (λ (s : JournaledState). s.failures) c.self.view_is,
  );
}

pub returns-in-Err-extend_from_slice : goal.returns-in-Err-extend_from_slice
returns-in-Err-extend_from_slice g c = record {
  answers = ap (λ (a : Answered). a.given) c.after-self-inside.ensures ∙ ap (λ (s : JournaledState). s.answers) c.self.view_is;
  taken = (
    c.in-Ok.ensures.steps.0,
    c.in-Ok.ensures.steps.1,
    subst (λ (s : JournaledState). Appends (kept_so_far s.steps) (kept_so_far (g.D.Disk.steps c.keep.new.self)) (take c.in-Ok.count c.args.text.now)) c.self.view_is
        (kept_more (g.D.Disk.steps c.self.inside.disk) (g.D.Disk.steps c.keep.new.self) (take c.in-Ok.count c.args.text.now) c.in-Ok.ensures.steps.2),
    ap (λ (s : JournaledState). s.failures) c.self.view_is,
  );
}

pub invariant_of-self-in-Err : goal.invariant_of-self-in-Err
invariant_of-self-in-Err g c = (
  stands_loses g.O.Order.is_synced g.O.Order.first g.O.Order.before (g.D.Disk.steps c.self.inside.disk) (g.D.Disk.steps c.keep.new.self) c.self.inside.pending.items c.self.inside.answered.given c.self.inside.answered.place c.self.inside.lost c.self.inside.is_behind c.self.inside.is_at_line
      (Failed (Segment (g.D.Disk.segment c.self.inside.disk)) NotDone) c.self.invariant.0 (ap (λ (s : JournaledState). s.lost) c.self.view_is ∙ c.requires.unlost) tt c.in-Err.ensures.steps,
  c.self.invariant.1,
  c.keep.ensures.which ∙ c.self.invariant.2,
  segment_lost g.O.Order.is_synced g.O.Order.first g.O.Order.before (g.D.Disk.steps c.self.inside.disk) (g.D.Disk.steps c.keep.new.self) c.self.inside.pending.items c.self.inside.answered.given c.self.inside.answered.place c.self.inside.lost c.self.inside.is_behind c.self.inside.is_at_line
      (g.D.Disk.segment c.self.inside.disk) g.O.Order.segment c.self.invariant.0 c.self.invariant.2 c.in-Err.ensures.steps,
)

pub returns-in-Err : goal.returns-in-Err
returns-in-Err g c = record {
  answers = c.fail.ensures.answers ∙ ap (λ (s : JournaledState). s.answers) c.self.view_is;
  taken = (
    stays_kept (kept_so_far c.args.self.now.steps) (kept_so_far c.fail.new.self.steps)
        (ap kept_so_far c.fail.ensures.steps
        ∙ (failed_keeps (g.D.Disk.steps c.self.inside.disk) (g.D.Disk.steps c.keep.new.self) (Segment (g.D.Disk.segment c.self.inside.disk)) NotDone c.in-Err.ensures.steps ∙ ap (λ (s : JournaledState). kept_so_far s.steps) c.self.view_is)),
    subst (λ (s : JournaledState). HasFailed s.failures c.fail.new.self.failures) c.self.view_is c.fail.ensures.failures,
  );
}
