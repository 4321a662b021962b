use Rattle.std.proofs.Common.{Option, subst}
use Rattle.world_calls.specs.declared.record.Record.{Record}
use Rattle.engine_core.specs.ByNumber.{Advances}
use Rattle.replay.proofs.Followed.{advanced_so}
use Rattle.replay.proofs.following.follows_advance.Goals as goal

pub returns-in-Some-clause-follows : goal.returns-in-Some-clause-follows
returns-in-Some-clause-follows c =
    let told = subst (λ (o : Option Record). Advances c.args.engine.now c.args.run o c.advance.new.self) c.in-Some.is c.in_ok-made.ensures.advanced in
    advanced_so c.is_advance_of.result c.args.engine.now c.advance.new.self c.args.run c.args.instructions c.args.stop.now c.args.r0 c.in-Some.made told.0 told.1 c.advance.ensures.setup c.is_advance_of.ensures

pub returns-in-None-clause-follows : goal.returns-in-None-clause-follows
returns-in-None-clause-follows c =
    let told = subst (λ (o : Option Record). Advances c.args.engine.now c.args.run o c.advance.new.self) c.in-None.is c.in_ok-made.ensures.advanced in
    told.1 c.args.instructions c.args.stop.now c.args.r0
