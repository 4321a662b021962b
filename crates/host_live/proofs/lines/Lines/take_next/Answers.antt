use Rattle.std.proofs.Common.{refl}
use Rattle.host_live.proofs.Come.{let_go}
use Rattle.host_live.proofs.lines.Lines.take_next.Goals as goal

pub returns-then-self-2-clause-takes : goal.returns-then-self-2-clause-takes
returns-then-self-2-clause-takes g c = λ base told stands. c.take.ensures.takes base told (let_go base c.args.self.now _ told (g.I.Input.came c.args.input.now) c.if-self.false refl c.if-self.false refl c.clear.ensures c.if-self-2.true stands)
