use Rattle.test_threads.proofs.crew.settled.Goals as goal

pub returns-clause-passes : goal.returns-clause-passes
returns-clause-passes g c = c.settle.ensures.passes c.args.inbox.now c.requires
