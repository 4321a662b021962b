use Rattle.std.proofs.Common.{◌≡◌, sym, subst, ◌∙◌, arith, inl}
use Rattle.check_description.specs.Spills.{IsGone, at_place}
use Rattle.check_description.proofs.Losing.{lost_not, lost_too, not_both}
use Rattle.check_description.proofs.places.outlive.Goals as goal
use Rattle.check_description.proofs.places.outlive.Goals.{then-is_gone, else-is_gone}

pub loop-place-preserved : goal.loop-place-preserved
loop-place-preserved c =
    let before = c.args.places.now in
    let live = c.args.live in
    let place = c.loop-place.place in
    let have = c.loop-place.invariant in
    let here : c.at.result ≡ at_place before place = c.at.ensures ∙ have.kept place (inl (omega arith)) in
    elim c.if-is_gone.branch [
      | then-is_gone w ↦ rw (w.places-is, w.stack-is)
          (lost_too (λ p. IsGone live (at_place before p)) (λ p. IsGone live (at_place before p) → ⊥) before c.args.stack.now place c.loop-place.places c.loop-place.stack have
          w.lose.new.places w.lose.new.stack (subst (IsGone live) here (c.is_gone.ensures.0 w.if-is_gone.true)) w.lose.ensures.nothing w.lose.ensures.others w.lose.ensures.len w.lose.ensures.depth w.lose.ensures.covers w.lose.ensures.knows)
      | else-is_gone w ↦ rw (w.places-is, w.stack-is)
          (let stays : IsGone live (at_place before place) → ⊥ = λ is. not_both c.is_gone.result w.if-is_gone.false (c.is_gone.ensures.1 (subst (IsGone live) (sym here) is)) in
          lost_not (λ p. IsGone live (at_place before p)) (λ p. IsGone live (at_place before p) → ⊥) before c.args.stack.now place c.loop-place.places c.loop-place.stack have stays stays)
    ]
