use Rattle.host_embedding.proofs.Listing.{AreListed}
use Rattle.host_embedding.proofs.ccbs.list.Given as goal

abbrev pub invariant-loop-place : goal.invariant-loop-place
invariant-loop-place l = AreListed l.transport.live l.from l.fn.numbers l.fn.states l.numbers l.states l.place l.count
