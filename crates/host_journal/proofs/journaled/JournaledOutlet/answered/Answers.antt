use Rattle.std.proofs.Common.{◌∙◌, ℕ, Option, Some, List, subst}
use Rattle.host_live.specs.Answering.{Answer, Answers}
use Rattle.host_journal.specs.Disks.{kept_so_far}
use Rattle.host_journal.specs.Journals.{stood_behind}
use Rattle.host_journal.proofs.Ordering.{answers_stood}
use Rattle.host_journal.proofs.journaled.JournaledOutlet.answered.Goals as goal

pub returns-in-Ok-clause-answers : goal.returns-in-Ok-clause-answers
returns-in-Ok-clause-answers g c =
    let base = kept_so_far g.O.Order.before in
    subst (λ (k : Option (List ℕ)). Answers (Some (stood_behind base c.args.self.now.answers)) c.args.line c.args.fault k c.answer.result (Some (stood_behind base c.answer.new.self.answers))) (c.answer.ensures.kept ∙ c.room.ensures.kept)
    (subst (λ (a : List Answer). Answers (Some (stood_behind base a)) c.args.line c.args.fault (kept_so_far c.answer.new.self.steps) c.answer.result (Some (stood_behind base c.answer.new.self.answers))) c.room.ensures.answers
    (answers_stood base (kept_so_far c.answer.new.self.steps) c.room.new.self.answers c.args.line c.args.fault c.answer.result c.answer.new.self.answers c.answer.ensures.answers))
