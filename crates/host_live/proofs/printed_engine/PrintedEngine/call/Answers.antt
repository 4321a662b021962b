use Rattle.std.proofs.Common.{◌≡◌, Option, refl, subst}
use Rattle.world_calls.specs.declared.call_answer.CallAnswer.{CallAnswer}
use Rattle.world_calls.specs.declared.record.Record.TheVariants.{Called}
use Rattle.engine_core.specs.ByNumber.{AnswersCall}
use Rattle.host_live.specs.Metering.{note_at}
use Rattle.host_live.proofs.Growing.{by_none, by_one, by_still}
use Rattle.host_live.proofs.Metering.{before_call}
use Rattle.host_live.proofs.Underway.{told_has, underway_on}
use Rattle.host_live.proofs.printed_engine.PrintedEngine.call.Goals as goal
use Rattle.host_live.proofs.printed_engine.PrintedEngine.call.Goals.{in-Called+in-Complete+in-Whole-1, in-Called+in-Complete+in-WithoutSense-1, in-Called+in-Submit-1, in-Advance+in-Trace-1, in-Advance+in-Helper-1, in-Complete+in-Whole-2, in-Complete+in-WithoutSense-2, in-Submit-2, in-Complete+in-Whole-3, in-Complete+in-WithoutSense-3, in-Submit-3}

pub print-requires-clause-spelled : goal.print-requires-clause-spelled
print-requires-clause-spelled g c =
    let follows = subst (λ (o : Option CallAnswer). AnswersCall c.self.inside.engine c.args.call o c.call-2.new.self) c.in-Ok-Some.field-0-is c.in-Ok-Some.ensures.answered in
    told_has c.self.inside.engine c.call-2.new.self c.self.inside.printed (Called c.in-Ok-Some.answer c.args.call) c.self.invariant follows c.call-2.ensures.setup

pub invariant_of-self : goal.invariant_of-self
invariant_of-self g c =
    let follows = subst (λ (o : Option CallAnswer). AnswersCall c.self.inside.engine c.args.call o c.call-2.new.self) c.in-Ok-Some.field-0-is c.in-Ok-Some.ensures.answered in
    underway_on c.self.inside.engine c.call-2.new.self c.self.inside.printed c.print.new.self (Called c.in-Ok-Some.answer c.args.call) c.self.invariant follows c.call-2.ensures.setup c.print.ensures.printed.version

pub returns-in-Ok-Some-clause-grown : goal.returns-in-Ok-Some-clause-grown
returns-in-Ok-Some-clause-grown g c =
    let follows = subst (λ (o : Option CallAnswer). AnswersCall c.self.inside.engine c.args.call o c.call-2.new.self) c.in-Ok-Some.field-0-is c.in-Ok-Some.ensures.answered in
    let same : c.match-entry.self ≡ record { engine = c.call-2.new.self; printed = c.print.new.self; metrics = c.count.new.self } = elim c.match-entry.branch [
      | in-Called+in-Complete+in-Whole-1 w ↦ w.self-is
      | in-Called+in-Complete+in-WithoutSense-1 w ↦ w.self-is
      | in-Called+in-Submit-1 w ↦ w.self-is
      | in-Advance+in-Trace-1 w ↦ w.self-is
      | in-Advance+in-Helper-1 w ↦ w.self-is
    ] in
    rw (same, ← c.self.view_is) (by_one c.self.inside.engine c.call-2.new.self c.self.inside.metrics c.count.new.self c.self.inside.printed c.print.new.self _ _ _ _ (Called c.in-Ok-Some.answer c.args.call) follows c.call-2.ensures.setup c.print.ensures.printed (c.count.ensures (note_at c.self.inside.engine (Called c.in-Ok-Some.answer c.args.call)) refl (before_call c.of_call-before.result c.self.inside.engine c.transport.result.now c.args.call c.in-Ok-Some.answer c.transport.ensures.value c.of_call-before.ensures)))

pub returns-then-self-ge18446744073709551615-clause-grown : goal.returns-then-self-ge18446744073709551615-clause-grown
returns-then-self-ge18446744073709551615-clause-grown g c = by_none c.args.self.now _ _

pub returns-in-Ok-None-clause-grown : goal.returns-in-Ok-None-clause-grown
returns-in-Ok-None-clause-grown g c =
    let none = subst (λ (o : Option CallAnswer). AnswersCall c.self.inside.engine c.args.call o c.call-2.new.self) c.in-Ok-None.field-0-is c.in-Ok-None.ensures.answered in
    let same : c.match-call-5.self ≡ record { engine = c.call-2.new.self; printed = c.self.inside.printed; metrics = c.self.inside.metrics } = elim c.match-call-5.branch [
      | in-Complete+in-Whole-2 w ↦ w.self-is
      | in-Complete+in-WithoutSense-2 w ↦ w.self-is
      | in-Submit-2 w ↦ w.self-is
    ] in
    rw (same, ← c.self.view_is) (by_still c.self.inside.engine c.call-2.new.self c.self.inside.metrics c.self.inside.printed _ _ none.0)

pub returns-in-Err-clause-grown : goal.returns-in-Err-clause-grown
returns-in-Err-clause-grown g c =
    let same : c.match-call-7.self ≡ record { engine = c.call-2.new.self; printed = c.self.inside.printed; metrics = c.self.inside.metrics } = elim c.match-call-7.branch [
      | in-Complete+in-Whole-3 w ↦ w.self-is
      | in-Complete+in-WithoutSense-3 w ↦ w.self-is
      | in-Submit-3 w ↦ w.self-is
    ] in
    rw (same, ← c.self.view_is) (by_still c.self.inside.engine c.call-2.new.self c.self.inside.metrics c.self.inside.printed _ _ c.in-Err.ensures.refused)

pub invariant_of-self-in-Ok-Some-2 : goal.invariant_of-self-in-Ok-Some-2
invariant_of-self-in-Ok-Some-2 g c =
    let follows = subst (λ (o : Option CallAnswer). AnswersCall c.self.inside.engine c.args.call o c.call-2.new.self) c.in-Ok-Some.field-0-is c.in-Ok-Some.ensures.answered in
    underway_on c.self.inside.engine c.call-2.new.self c.self.inside.printed c.print.new.self (Called c.in-Ok-Some.answer c.args.call) c.self.invariant follows c.call-2.ensures.setup c.print.ensures.printed.version

pub invariant_of-self-in-Ok-Some-3 : goal.invariant_of-self-in-Ok-Some-3
invariant_of-self-in-Ok-Some-3 g c =
    let follows = subst (λ (o : Option CallAnswer). AnswersCall c.self.inside.engine c.args.call o c.call-2.new.self) c.in-Ok-Some.field-0-is c.in-Ok-Some.ensures.answered in
    underway_on c.self.inside.engine c.call-2.new.self c.self.inside.printed c.print.new.self (Called c.in-Ok-Some.answer c.args.call) c.self.invariant follows c.call-2.ensures.setup c.print.ensures.printed.version
