use Rattle.world_calls.specs.declared.call_answer.CallAnswer.TheVariants as answers
use Rattle.host_embedding.proofs.Remade.{submitted_may}
use Rattle.host_embedding.proofs.remaking.submit.Goals as goal

pub returns : goal.returns
returns c =
    submitted_may c.submit.result c.args.engine.now c.submit.new.self (answers.Ccb (record { 0 = c.submit.new.ccb })) c.args.queue c.args.priority c.args.retries c.word_of-word.result c.args.class c.class_said.result
    c.class_said.ensures (c.is_same.ensures c.if-not-is_same.false) c.submit.ensures.recorded
