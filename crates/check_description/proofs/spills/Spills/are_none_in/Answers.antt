use Rattle.std.proofs.Common.{◌≡◌, ℕ, ◌+◌, ◌-◌, ◌*◌, List, ap, sym, ◌∙◌, arith}
use Rattle.check_description.specs.declared.spill.Spill.{Spill}
use Rattle.check_description.specs.Spills.{at_place}
use Rattle.check_description.proofs.spills.Spills.are_none_in.Goals as goal

pub returns : goal.returns
returns c =
    let frame = c.args.frame in
    let same : c.as_slice.result.now ≡ c.args.self.now = c.as_slice.ensures.value ∙ c.self.view_is in
    let from = c.place_of-first.ensures in
    let to = c.place_of.ensures in
    let up = c.div_ceil.ensures in (
      λ none word few above below. ap (λ (l : List Spill). at_place l (64 * frame + word)) (sym same) ∙ c.are_none.ensures.0 none (64 * frame + word) (omega (arith, from, above)) (omega (arith, to, up, below)),
      λ all. c.are_none.ensures.1 (λ place above below.
          let word : ℕ = place - 64 * frame in
          let here : 64 * frame + word ≡ place = omega (arith, from, above) in
          ap (λ (l : List Spill). at_place l place) same ∙ (ap (at_place c.args.self.now) (sym here) ∙ all word (omega (arith, to, up, below, c.requires)) (omega (arith, from, above)) (omega (arith, to, up, below)))),
    )
