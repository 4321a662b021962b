use Rattle.std.proofs.Common.{◌≡◌, ◌∙◌, None, ap, sym}
use Rattle.host_journal.specs.Journals.{JournaledState}
use Rattle.host_journal.proofs.Standing.{has_none, none_of, output_lost, stands_cut, stands_out}
use Rattle.host_journal.proofs.journaled.Journaled.flush.Goals as goal

pub invariant_of-self : goal.invariant_of-self
invariant_of-self g c =
    let lost : c.self-2.inside.lost ≡ None =
    ap (λ (s : JournaledState). s.lost) c.self-2.view_is ∙ c.in_ok-make_sure.ensures.lost ∙ sym (ap (λ (s : JournaledState). s.lost) c.self.view_is) ∙ none_of c.self.inside.lost (sym c.is_some.ensures ∙ c.if-is_some.false) in (
      stands_out g.O.Order.is_synced g.O.Order.first g.O.Order.before (g.D.Disk.steps c.self-2.inside.disk) (g.D.Disk.steps c.put_all.new.disk) c.self-2.inside.pending.items c.as_slice.result.now c.clear.new.self.items
          c.self-2.inside.answered.given c.self-2.inside.answered.place c.self-2.inside.lost c.self-2.inside.is_behind c.self-2.inside.is_at_line c.self-2.invariant.0 lost (λ asked. ap (λ (s : JournaledState). s.is_behind) c.self-2.view_is ∙ c.in_ok-make_sure.ensures.sure asked)
          c.as_slice.ensures.value c.clear.ensures.items c.in-Ok.ensures.order,
      c.self-2.invariant.1,
      c.put_all.ensures.which ∙ c.self-2.invariant.2,
      has_none g.O.Order.segment g.O.Order.before (g.D.Disk.steps c.put_all.new.disk) c.self-2.inside.lost lost,
    )

pub invariant_of-self-in-Err : goal.invariant_of-self-in-Err
invariant_of-self-in-Err g c =
    let lost : c.self-2.inside.lost ≡ None =
    ap (λ (s : JournaledState). s.lost) c.self-2.view_is ∙ c.in_ok-make_sure.ensures.lost ∙ sym (ap (λ (s : JournaledState). s.lost) c.self.view_is) ∙ none_of c.self.inside.lost (sym c.is_some.ensures ∙ c.if-is_some.false) in (
      stands_cut g.O.Order.is_synced g.O.Order.first g.O.Order.before (g.D.Disk.steps c.self-2.inside.disk) (g.D.Disk.steps c.put_all.new.disk) c.self-2.inside.pending.items c.as_slice.result.now c.self-2.inside.pending.items
          c.self-2.inside.answered.given c.self-2.inside.answered.place c.self-2.inside.lost c.self-2.inside.is_behind c.self-2.inside.is_at_line c.self-2.inside.is_behind c.self-2.inside.is_at_line c.self-2.invariant.0 lost
          (λ asked. ap (λ (s : JournaledState). s.is_behind) c.self-2.view_is ∙ c.in_ok-make_sure.ensures.sure asked) c.as_slice.ensures.value c.in-Err.ensures.order,
      c.self-2.invariant.1,
      c.put_all.ensures.which ∙ c.self-2.invariant.2,
      output_lost g.O.Order.is_synced g.O.Order.first g.O.Order.before (g.D.Disk.steps c.self-2.inside.disk) (g.D.Disk.steps c.put_all.new.disk) c.self-2.inside.pending.items c.self-2.inside.answered.given c.self-2.inside.answered.place c.self-2.inside.lost c.self-2.inside.is_behind c.self-2.inside.is_at_line
          c.self-2.invariant.0 c.in-Err.ensures.lost,
    )

pub returns-in-Ok-clause-sure : goal.returns-in-Ok-clause-sure
returns-in-Ok-clause-sure g c = λ asked. ap (λ (s : JournaledState). s.is_behind) c.self-2.view_is ∙ c.in_ok-make_sure.ensures.sure asked
