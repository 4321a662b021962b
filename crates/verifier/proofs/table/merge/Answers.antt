use Rattle.std.proofs.Common.{◌≡◌, refl, sym, subst, ap, ◌∙◌, length}
use Rattle.check_description.specs.declared.description.Description.{Description}
use Rattle.check_description.specs.Description.{Covers}
use Rattle.reg_domain.specs.Enough.{Agree}
use Rattle.verifier.specs.Arrives.{Arrives, joins}
use Rattle.verifier.proofs.Joined.{same_description}
use Rattle.verifier.proofs.table.merge.Goals as goal

pub returns-then-join-clause-merged : goal.returns-then-join-clause-merged
returns-then-join-clause-merged c =
    let old = c.in-Some.old in
    let after = c.join.new.description in
    let was : c.deref_mut.result.now ≡ old = c.deref_mut.ensures.value ∙ c.old.view_is in record {
      covers = subst (λ (d : Description). Covers d after) (c.deref.ensures ∙ c.new.view_is) (c.if-join.ensures.second refl);
      keeps = λ other is. subst (λ (d : Description). Covers d after) (was ∙ same_description old other (sym c.in-Some.is ∙ is)) (c.if-join.ensures.first refl);
      frames = λ frames is all. c.if-join.ensures.depth refl ∙ (ap (λ (d : Description). length d.stack) was ∙ all old c.in-Some.is);
    }

pub returns-then-join-clause-passes : goal.returns-then-join-clause-passes
returns-then-join-clause-passes c = λ program to lacks_not inside arrives were.
    let was : c.deref_mut.result.now ≡ c.in-Some.old = c.deref_mut.ensures.value ∙ c.old.view_is in
    let before = subst (Arrives program to) (sym was) (were c.in-Some.old c.in-Some.is) in
    let new = subst (Arrives program to) (sym (c.deref.ensures ∙ c.new.view_is)) arrives in
    let agree : Agree c.deref_mut.result.now c.deref.result.now = lacks_not.agree to c.deref_mut.result.now c.deref.result.now inside before new in
    joins to c.deref_mut.result.now c.deref.result.now c.join.new.description before new agree (c.if-join.ensures.agree agree).1
