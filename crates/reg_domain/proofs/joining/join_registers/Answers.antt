use Rattle.std.proofs.Common.{◌≢◌, ◌<◌, ◌∙◌, length, arith, below_more, subst, get_or-set_same, get_or-set_other}
use Rattle.std.proofs.Math.ListN.{length-set}
use Rattle.check_register_kinds.specs.declared.kind.Kind.{Kind}
use Rattle.reg_domain.specs.AllRegisters.{Joins}
use Rattle.check_description.specs.Changes.{at}
use Rattle.reg_domain.proofs.joining.join_registers.Goals as goal

pub loop-reg-preserved : goal.loop-reg-preserved
loop-reg-preserved c =
    let reg = c.loop-reg.reg in
    let long : reg < length c.loop-reg.registers = omega (arith, c.loop-reg.invariant.count, c.loop-reg-test.true) in
    let joins : Joins (at c.loop-reg.registers reg) (at c.args.other.now reg) c.join.result = record {
      of_first = c.join.ensures.of_self;
      of_second = c.join.ensures.of_other;
      equal = c.join.ensures.equal;
      numbers = c.join.ensures.numbers;
      bounds = c.join.ensures.bounds;
    } in record {
      count = length-set c.loop-reg.registers reg c.join.result ∙ c.loop-reg.invariant.count;
      done = below_more _ _
          (λ k h. let other : k ≢ reg = omega arith in rw get_or-set_other (c.loop-reg.invariant.done k h))
          (rw get_or-set_same (subst (λ (kind : Kind). Joins kind (at c.args.other.now reg) c.join.result) (c.loop-reg.invariant.rest reg (omega arith)) joins));
      rest = λ k h. let other : k ≢ reg = omega (arith, h) in rw get_or-set_other (c.loop-reg.invariant.rest k (omega (arith, h)));
    }
