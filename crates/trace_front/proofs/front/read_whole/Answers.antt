use Rattle.trace_front.proofs.front.read_whole.Goals as goal

pub returns : goal.returns
returns c = c.front_of.ensures c.args.text.now c.read.ensures.said
