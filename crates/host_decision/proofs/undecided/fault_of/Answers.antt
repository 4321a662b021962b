use Rattle.std.proofs.Common.{List, arith, subst}
use Rattle.std.specs.Prelude.{IfNone, IfSome}
use Rattle.show_question.specs.declared.TableWord.{TableWord}
use Rattle.host_decision.specs.Faults.{AreFaultless, IsFaultAmong}
use Rattle.host_decision.proofs.Faultless.{first, possible}
use Rattle.host_decision.proofs.undecided.fault_of.Goals as goal

pub returns-clause-possible : goal.returns-clause-possible
returns-clause-possible c =
    possible c.args.config.now c.args.question.now c.faulty_word.result (omega arith) (cc) (omega arith) (cc)
    (subst (λ (words : List TableWord). IfNone c.faulty_word.result (AreFaultless c.args.config.now words)) c.deref.ensures.value c.faulty_word.ensures.none)

pub returns-clause-fault : goal.returns-clause-fault
returns-clause-fault c =
    first c.args.config.now c.args.question.now c.faulty_word.result (omega arith) (cc) (omega arith) (cc)
    (subst (λ (words : List TableWord). IfSome c.faulty_word.result (IsFaultAmong c.args.config.now words)) c.deref.ensures.value c.faulty_word.ensures.fault)
