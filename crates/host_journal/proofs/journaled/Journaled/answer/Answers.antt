use Rattle.std.proofs.Common.{◌≡◌, ◌∙◌, ℕ, List, Option, [], ◌∷◌, ◌++◌, ap, refl, subst, sym}
use Rattle.host_live.specs.Answering.{Answer}
use Rattle.host_live.specs.declared.reports.LineFault.{LineFault}
use Rattle.host_journal.specs.Journals.{JournaledState, Stands}
use Rattle.host_journal.specs.declared.answered.Answered.{Answered}
use Rattle.host_journal.proofs.Standing.{place_long, stands_answer}
use Rattle.host_journal.proofs.journaled.Journaled.answer.Goals as goal

pub invariant_of-self-in-Ok : goal.invariant_of-self-in-Ok
invariant_of-self-in-Ok g c =
    let before = c.self.inside.answered.given in
    let place = c.self.inside.answered.place in
    let stands = stands_answer g.O.Order.is_synced g.O.Order.first g.O.Order.before (g.D.Disk.steps c.self.inside.disk) c.self.inside.pending.items before place c.self.inside.lost c.self.inside.is_behind c.self.inside.is_at_line
    c.args.line c.args.fault c.if-not-self.false c.self.invariant.0 in
    let more : List ℕ = c.extend_from_slice.new.self.items in
    let given : c.and_one-self-inside.result ≡ record { given = before ++ record { line = c.args.line; fault = c.args.fault; behind = place } ∷ []; place = place } =
    c.and_one-self-inside.ensures ∙ ap (λ (fault : Option LineFault). record { given = before ++ record { line = c.args.line; fault = fault; behind = place } ∷ []; place = place }) c.code_of.ensures in (
      subst (λ (a : Answered). Stands g.O.Order.is_synced g.O.Order.first g.O.Order.before (g.D.Disk.steps c.self.inside.disk) more a.given a.place c.self.inside.lost c.self.inside.is_behind c.self.inside.is_at_line) (sym given)
          (subst (λ (t : List ℕ). Stands g.O.Order.is_synced g.O.Order.first g.O.Order.before (g.D.Disk.steps c.self.inside.disk) t (before ++ record { line = c.args.line; fault = c.args.fault; behind = place } ∷ []) place c.self.inside.lost c.self.inside.is_behind c.self.inside.is_at_line)
          (sym {A = List ℕ} (c.in-Ok.ensures.items ∙ ap (λ (t : List ℕ). c.self.inside.pending.items ++ t) (c.as_slice.ensures.bytes ∙ c.answer_to.ensures))) stands),
      c.self.invariant.1,
      c.self.invariant.2,
      c.self.invariant.3,
    )

pub returns-in-Ok-clause-answers : goal.returns-in-Ok-clause-answers
returns-in-Ok-clause-answers g c =
    let its = c.self.inside in (
      its.answered.place,
      ap (λ (a : Answered). a.given) c.and_one-self-inside.ensures
          ∙ (ap (λ (fault : Option LineFault). its.answered.given ++ record { line = c.args.line; fault = fault; behind = its.answered.place } ∷ []) c.code_of.ensures
          ∙ ap (λ (s : JournaledState). s.answers ++ record { line = c.args.line; fault = c.args.fault; behind = its.answered.place } ∷ []) c.self.view_is),
      place_long g.O.Order.is_synced g.O.Order.first g.O.Order.before (g.D.Disk.steps its.disk) its.pending.items its.answered.given its.answered.place its.lost its.is_behind its.is_at_line (ap (λ (s : JournaledState). s.lost) c.self.view_is ∙ c.requires) c.self.invariant.0,
    )
