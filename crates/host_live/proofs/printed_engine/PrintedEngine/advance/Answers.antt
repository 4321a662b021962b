use Rattle.std.proofs.Common.{◌∷◌, [], Option, refl, subst}
use Rattle.world_calls.specs.declared.record.Record.{Record}
use Rattle.engine_core.specs.ByNumber.{Advances}
use Rattle.host_live.specs.Metering.{note_at}
use Rattle.host_live.proofs.Growing.{by_none, by_one, by_still}
use Rattle.host_live.proofs.Metering.{before_run}
use Rattle.host_live.proofs.Underway.{told_has, underway_on}
use Rattle.host_live.proofs.printed_engine.PrintedEngine.advance.Goals as goal

pub print-requires-clause-spelled : goal.print-requires-clause-spelled
print-requires-clause-spelled g c =
    let told = subst (λ (o : Option Record). Advances c.self.inside.engine c.args.run o c.advance.new.self) c.in-Ok-Some.field-0-is c.in-Ok-Some.ensures.advanced in
    told_has c.self.inside.engine c.advance.new.self c.self.inside.printed c.in-Ok-Some.entry c.self.invariant told.1 c.advance.ensures.setup

pub returns-then-self-ge18446744073709551615-clause-refused : goal.returns-then-self-ge18446744073709551615-clause-refused
returns-then-self-ge18446744073709551615-clause-refused g c = by_none c.args.self.now _ _

pub returns-then-is_exit-clause-made : goal.returns-then-is_exit-clause-made
returns-then-is_exit-clause-made g c =
    let told = subst (λ (o : Option Record). Advances c.self.inside.engine c.args.run o c.advance.new.self) c.in-Ok-Some.field-0-is c.in-Ok-Some.ensures.advanced in
    (c.in-Ok-Some.entry ∷ [], (c.in-Ok-Some.entry, told.0, c.is_exit.ensures c.if-is_exit.true, refl), rw (← c.self.view_is) (by_one c.self.inside.engine c.advance.new.self c.self.inside.metrics c.count.new.self c.self.inside.printed c.print.new.self _ _ _ _ c.in-Ok-Some.entry told.1 c.advance.ensures.setup c.print.ensures.printed (c.count.ensures (note_at c.self.inside.engine c.in-Ok-Some.entry) refl (before_run c.of_run-before.result c.self.inside.engine c.runs.result.now.runs c.args.run c.in-Ok-Some.entry c.runs.ensures.value told.0 c.of_run-before.ensures))))

pub returns-in-Ok-Some-clause-made : goal.returns-in-Ok-Some-clause-made
returns-in-Ok-Some-clause-made g c =
    let told = subst (λ (o : Option Record). Advances c.self.inside.engine c.args.run o c.advance.new.self) c.in-Ok-Some.field-0-is c.in-Ok-Some.ensures.advanced in
    (c.in-Ok-Some.entry ∷ [], (c.in-Ok-Some.entry, told.0, refl), rw (← c.self.view_is) (by_one c.self.inside.engine c.advance.new.self c.self.inside.metrics c.count.new.self c.self.inside.printed c.print.new.self _ _ _ _ c.in-Ok-Some.entry told.1 c.advance.ensures.setup c.print.ensures.printed (c.count.ensures (note_at c.self.inside.engine c.in-Ok-Some.entry) refl (before_run c.of_run-before.result c.self.inside.engine c.runs.result.now.runs c.args.run c.in-Ok-Some.entry c.runs.ensures.value told.0 c.of_run-before.ensures))))

pub returns-in-Ok-None-clause-made : goal.returns-in-Ok-None-clause-made
returns-in-Ok-None-clause-made g c =
    let none = subst (λ (o : Option Record). Advances c.self.inside.engine c.args.run o c.advance.new.self) c.in-Ok-None.field-0-is c.in-Ok-None.ensures.advanced in
    ([], refl, rw (← c.self.view_is) (by_still c.self.inside.engine c.advance.new.self c.self.inside.metrics c.self.inside.printed _ _ none.0))

pub returns-clause-refused : goal.returns-clause-refused
returns-clause-refused g c = rw (← c.self.view_is) (by_still c.self.inside.engine c.advance.new.self c.self.inside.metrics c.self.inside.printed _ _ c.in-Err.ensures.refused.0)

pub invariant_of-self : goal.invariant_of-self
invariant_of-self g c =
    let told = subst (λ (o : Option Record). Advances c.self.inside.engine c.args.run o c.advance.new.self) c.in-Ok-Some.field-0-is c.in-Ok-Some.ensures.advanced in
    underway_on c.self.inside.engine c.advance.new.self c.self.inside.printed c.print.new.self c.in-Ok-Some.entry c.self.invariant told.1 c.advance.ensures.setup c.print.ensures.printed.version

pub invariant_of-self-in-Ok-Some : goal.invariant_of-self-in-Ok-Some
invariant_of-self-in-Ok-Some g c =
    let told = subst (λ (o : Option Record). Advances c.self.inside.engine c.args.run o c.advance.new.self) c.in-Ok-Some.field-0-is c.in-Ok-Some.ensures.advanced in
    underway_on c.self.inside.engine c.advance.new.self c.self.inside.printed c.print.new.self c.in-Ok-Some.entry c.self.invariant told.1 c.advance.ensures.setup c.print.ensures.printed.version
