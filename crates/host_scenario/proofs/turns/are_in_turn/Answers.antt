use Rattle.std.proofs.Common.{◌≡◌, ◌∷◌, [], ap, arith, length, length-append, rules, sym, take, true, ◌∙◌}
use Rattle.scenario.specs.Left.{steps_left}
use Rattle.scenario.specs.Steps.{step_seen}
use Rattle.host_scenario.specs.Turns.{Turn, are_in_turn, may_do, seen, turn_after}
use Rattle.host_scenario.specs.declared.turns.Doing.{Doing}
use Rattle.host_scenario.proofs.Followed.{goes_on, stops}
use Rattle.host_scenario.proofs.Turned.{at_count, at_last, stands}
use Rattle.host_scenario.proofs.Walked.{all_passed, is_here, is_within, walks_on}
use Rattle.host_scenario.proofs.turns.are_in_turn.Goals as goal

pub returns-then-passed-count : goal.returns-then-passed-count
returns-then-passed-count c =
    c.ends.ensures
    ∙ (ap (are_in_turn c.args.all (seen c.loop-step.reached c.args.records.now.items)) (sym (at_count c.args.count c.loop-step.passed c.args.scenario.now c.if-passed-count.true))
    ∙ c.loop-step.invariant.same)

pub returns-then-not-goes_on : goal.returns-then-not-goes_on
returns-then-not-goes_on c =
    let all = c.args.scenario.now in
    let step = c.in-Some.step in
    let turn = seen c.loop-step.reached c.args.records.now.items in
    let next : steps_left c.loop-step.step-iterator ≡ step_seen step ∷ steps_left c.next.new.self = search rules in
    let i = c.loop-step.invariant in
    let it = stands c.args.count c.loop-step.passed (length c.loop-step.yielded) all (step_seen step) i.passed i.before c.if-passed-count.false (is_within all c.loop-step.yielded step _ _ i.walks next) (is_here all c.loop-step.yielded step _ _ i.walks next) in
    stops c.args.all c.goes_on.result turn (take c.args.count all) c.loop-step.passed (step_seen step) it.within it.is (c.goes_on.ensures.may ∙ ap (λ (d : Doing). may_do d turn) c.doing_for.ensures) c.if-not-goes_on.true
    ∙ i.same

pub loop-step-preserved : goal.loop-step-preserved
loop-step-preserved c =
    let all = c.args.scenario.now in
    let step = c.in-Some.step in
    let turn = seen c.loop-step.reached c.args.records.now.items in
    let next : steps_left c.loop-step.step-iterator ≡ step_seen step ∷ steps_left c.next.new.self = search rules in
    let i = c.loop-step.invariant in
    let it = stands c.args.count c.loop-step.passed (length c.loop-step.yielded) all (step_seen step) i.passed i.before c.if-passed-count.false (is_within all c.loop-step.yielded step _ _ i.walks next) (is_here all c.loop-step.yielded step _ _ i.walks next) in
    let so : c.goes_on.result ≡ true = search rules in
    record {
      walks = walks_on all c.loop-step.yielded step _ _ i.walks next;
      passed = omega (arith, i.passed, length-append c.loop-step.yielded (step ∷ []));
      before = omega (arith, i.before, c.if-passed-count.false);
      same = goes_on c.args.all c.goes_on.result turn _ (take c.args.count all) c.loop-step.passed (step_seen step) it.within it.is (c.goes_on.ensures.may ∙ ap (λ (d : Doing). may_do d turn) c.doing_for.ensures) so
          (c.goes_on.ensures.after so ∙ ap (λ (d : Doing). turn_after d turn) c.doing_for.ensures) ∙ i.same;
      served = c.goes_on.ensures.within.0;
      started = c.goes_on.ensures.within.1;
      ended = c.goes_on.ensures.within.2;
      within = c.goes_on.ensures.within.3;
      few = omega (arith, c.goes_on.ensures.put, i.few);
    }

pub returns : goal.returns
returns c =
    let i = c.loop-step.invariant in
    c.ends-2.ensures
    ∙ (ap (are_in_turn c.args.all (seen c.loop-step.reached c.args.records.now.items)) (sym (at_last c.args.count c.loop-step.passed c.args.scenario.now (i.passed ∙ all_passed c.args.scenario.now c.loop-step.yielded _ i.walks c.in-None.ensures.steps.0)))
    ∙ i.same)
