use Rattle.std.proofs.Common.{get_or}
use Rattle.std.proofs.lemmas.Option.{slice_get-get_or}
use Rattle.show_question.specs.declared.TableWord.{TableWord}
use Rattle.host_decision.proofs.Faultless.{fault_more, faultless}
use Rattle.host_decision.proofs.undecided.faulty_word.Goals as goal

pub loop-place-preserved : goal.loop-place-preserved
loop-place-preserved c =
    let words = c.args.words.now in
    let none : TableWord = record { table = 0; index = 0; word = 0 } in
    fault_more c.args.config.now words c.loop-place.place (get_or words c.loop-place.place none) (slice_get-get_or words c.loop-place.place none c.loop-place-test.true)
    c.if-is_faulty.ensures c.loop-place.invariant

pub returns-clause-none : goal.returns-clause-none
returns-clause-none c = faultless c.args.config.now c.args.words.now c.loop-place.place c.loop-place-test.false c.loop-place.invariant
