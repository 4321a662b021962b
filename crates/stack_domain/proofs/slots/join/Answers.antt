use Rattle.std.proofs.Common.{ℕ, List, Option, None, arith, length, subst, sym, ◌∙◌}
use Rattle.std.specs.Prelude.{slice_index_or}
use Rattle.std.proofs.lemmas.List.{get_or-set_other, length-set}
use Rattle.stack_domain.specs.Numbers.{StandsIn}
use Rattle.stack_domain.specs.declared.numbers.StackNumber.{StackNumber}
use Rattle.stack_domain.proofs.Standing.{each_stands, set_each}
use Rattle.stack_domain.proofs.slots.join.Goals as goal

pub loop-slot-preserved : goal.loop-slot-preserved
loop-slot-preserved c =
    let slot = c.loop-slot.slot in
    let before = c.args.slots.now in
    let others = c.args.others.now in
    let have = c.loop-slot.invariant in
    record {
      count = length-set c.loop-slot.slots slot c.met.result ∙ have.count;
      first = set_each (λ (j : ℕ) (s : Option StackNumber). (frames : List (List (Option ℕ))) → StandsIn frames (slice_index_or before j None) → StandsIn frames s) c.loop-slot.slots slot c.met.result (omega arith) have.first
          (λ frames stands. c.met.ensures.first frames (subst (StandsIn frames) (sym (have.rest slot (omega arith))) stands));
      second = set_each (λ (j : ℕ) (s : Option StackNumber). (frames : List (List (Option ℕ))) → StandsIn frames (slice_index_or others j None) → StandsIn frames s) c.loop-slot.slots slot c.met.result (omega arith) have.second
          (λ frames stands. c.met.ensures.second frames (subst (StandsIn frames) (sym c.at.ensures) stands));
      rest = λ j past. get_or-set_other c.loop-slot.slots slot j c.met.result None (omega arith) ∙ have.rest j (omega arith);
    }

pub returns-clause-first : goal.returns-clause-first
returns-clause-first c = λ frames. each_stands frames c.args.slots.now c.loop-slot.slots (length c.args.slots.now) c.loop-slot.invariant.count (λ j few. c.loop-slot.invariant.first j (omega (arith, few, c.loop-slot-test.false)) frames)

pub returns-clause-second : goal.returns-clause-second
returns-clause-second c = λ frames. each_stands frames c.args.others.now c.loop-slot.slots (length c.args.slots.now) c.loop-slot.invariant.count (λ j few. c.loop-slot.invariant.second j (omega (arith, few, c.loop-slot-test.false)) frames)
