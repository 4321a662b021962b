use Rattle.std.proofs.Common.{◌≡◌, sym, ◌∙◌, arith, inl, inr}
use Rattle.std.proofs.lemmas.Bool.{cases_lt}
use Rattle.std.proofs.lemmas.List.{get_or_past}
use Rattle.check_description.specs.declared.spill.Spill.TheVariants.{Nothing}
use Rattle.check_description.specs.Spills.{at_place}
use Rattle.check_description.proofs.Losing.{lost_not, lost_too, not_both}
use Rattle.check_description.proofs.places.meet.Goals as goal
use Rattle.check_description.proofs.places.meet.Goals.{then-not-is_same, else-not-is_same}

pub loop-place-preserved : goal.loop-place-preserved
loop-place-preserved c =
    let before = c.args.places.now in
    let others = c.args.others.now in
    let place = c.loop-place.place in
    let have = c.loop-place.invariant in
    let here : c.at.result ≡ at_place before place = c.at.ensures ∙ have.kept place (inl (omega arith)) in
    elim c.if-not-is_same.branch [
      | then-not-is_same w ↦ rw (w.places-is, w.stack-is)
          (lost_too (λ p. at_place before p ≡ at_place others p → ⊥) (λ p. at_place before p ≡ at_place others p) before c.args.stack.now place c.loop-place.places c.loop-place.stack have
          w.lose.new.places w.lose.new.stack (λ same. not_both c.is_same.result w.if-not-is_same.true (c.is_same.ensures.1 (here ∙ (same ∙ sym c.at-in-loop-place.ensures)))) w.lose.ensures.nothing w.lose.ensures.others w.lose.ensures.len w.lose.ensures.depth w.lose.ensures.covers w.lose.ensures.knows)
      | else-not-is_same w ↦ rw (w.places-is, w.stack-is)
          (let same : at_place before place ≡ at_place others place = sym here ∙ (c.is_same.ensures.0 w.if-not-is_same.false ∙ c.at-in-loop-place.ensures) in
          lost_not (λ p. at_place before p ≡ at_place others p → ⊥) (λ p. at_place before p ≡ at_place others p) before c.args.stack.now place c.loop-place.places c.loop-place.stack have (λ apart. apart same) same)
    ]

pub returns-clause-second : goal.returns-clause-second
returns-clause-second c = λ place. elim (cases_lt place c.loop-place.place) [
  | inl below ↦ elim (c.loop-place.invariant.fewer place) [
    | inl none ↦ inl none
    | inr was ↦ elim (c.loop-place.invariant.each place below) [ inl none ↦ inl none | inr same ↦ inr (was ∙ same) ]
  ]
  | inr past ↦ inl (get_or_past c.loop-place.places place Nothing (omega (arith, past, c.loop-place-test.false, c.max-place-end.ensures, c.loop-place.invariant.len)))
]
