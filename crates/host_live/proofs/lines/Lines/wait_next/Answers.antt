use Rattle.std.proofs.Common.{refl, subst}
use Rattle.host_live.specs.Inputs.{Comes}
use Rattle.host_live.specs.declared.input.Came.{Came}
use Rattle.host_live.proofs.Come.{is_over, more_came, over_at_line, stands_over, taken_over}
use Rattle.host_live.proofs.lines.Lines.wait_next.Goals as goal

pub returns-then-take-clause-waits : goal.returns-then-take-clause-waits
returns-then-take-clause-waits g c = λ base told stands taken.
    let comes = subst (λ (r : Came). Comes (g.I.Input.came c.args.input.now) r (g.I.Input.came c.wait.new.self)) c.in-Bytes.is c.wait.ensures.comes in
    c.if-take.ensures.takes base told (more_came base c.args.self.now _ told (g.I.Input.came c.args.input.now) (g.I.Input.came c.wait.new.self) c.if-self.false comes taken refl refl (c.requires.untold c.if-self.false) (c.requires.untold c.if-self.false) c.if-self.false stands)

pub returns-else-take-clause-waits : goal.returns-else-take-clause-waits
returns-else-take-clause-waits g c = λ base told stands taken.
    let comes = subst (λ (r : Came). Comes (g.I.Input.came c.args.input.now) r (g.I.Input.came c.wait.new.self)) c.in-Bytes.is c.wait.ensures.comes in
    let it = c.if-take.ensures.takes base told (more_came base c.args.self.now _ told (g.I.Input.came c.args.input.now) (g.I.Input.came c.wait.new.self) c.if-self.false comes taken refl refl (c.requires.untold c.if-self.false) (c.requires.untold c.if-self.false) c.if-self.false stands) in
    (it.0, it.1)

pub returns-then-self-clause-waits : goal.returns-then-self-clause-waits
returns-then-self-clause-waits g c = λ base told stands taken.
    let it = stands.ended c.if-self.true in
    (stands, refl, over_at_line base told c.args.self.now (g.I.Input.came c.args.input.now) stands it.0 it.1 it.2)

pub returns-in-End-clause-waits : goal.returns-in-End-clause-waits
returns-in-End-clause-waits g c = λ base told stands taken.
    let comes = subst (λ (r : Came). Comes (g.I.Input.came c.args.input.now) r (g.I.Input.came c.wait.new.self)) c.in-End.is c.wait.ensures.comes in
    c.end.ensures.waits base told (g.I.Input.came c.wait.new.self) (stands_over base told c.args.self.now (g.I.Input.came c.args.input.now) (g.I.Input.came c.wait.new.self) c.if-self.false comes stands)
    (taken_over (g.I.Input.came c.args.input.now) (g.I.Input.came c.wait.new.self) c.args.self.now comes taken) (is_over (g.I.Input.came c.args.input.now) (g.I.Input.came c.wait.new.self) comes)

pub returns-in-End-clause-due : goal.returns-in-End-clause-due
returns-in-End-clause-due g c = c.end.ensures.due c.args.manner
