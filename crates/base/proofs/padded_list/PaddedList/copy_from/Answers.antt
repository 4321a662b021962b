use Rattle.std.proofs.Common.{◌≢◌, ◌<◌, sym, subst, ap, take, get_or, ◌∙◌, arith}
use Rattle.std.proofs.lemmas.List.{get_or_default, get_or-set_other, length-set}
use Rattle.base.specs.Padded.{IsPadded}
use Rattle.base.proofs.Places.{copied_is, copied_more}
use Rattle.base.proofs.padded_list.PaddedList.copy_from.Goals as goal

pub loop-place-preserved : goal.loop-place-preserved
loop-place-preserved g c =
    let now = c.loop-place.self-inside.places in
    let others = c.other.inside.places in
    let k = c.loop-place.place in
    let new = get_or others k c.index-other-place.result in
    let less : k < g.row.N = omega (arith, c.self.invariant.within, c.other.invariant.within, c.loop-place-test.true, c.max-end.ensures) in
    record {
      whole = length-set now k new ∙ c.loop-place.invariant.whole;
      copied = copied_more g.T.Blank.blank g.row.N now others k new less c.loop-place.invariant.whole c.other.invariant.whole
          (get_or_default others k c.index-other-place.result new (omega (arith, c.other.invariant.whole, less))) c.loop-place.invariant.copied;
      left = λ j past. let apart : j ≢ k = omega arith in get_or-set_other now k j new g.T.Blank.blank apart ∙ c.loop-place.invariant.left j (omega arith);
    }

pub invariant_of-self : goal.invariant_of-self
invariant_of-self g c =
    let same = copied_is g.T.Blank.blank g.row.N c.self.inside.places c.other.inside.places c.self.inside.len c.other.inside.len c.self.invariant c.other.invariant c.loop-place.self-inside.places c.loop-place.place c.loop-place.invariant.whole
    (omega (arith, c.loop-place-test.false, c.max-end.ensures)) (omega (arith, c.loop-place-test.false, c.max-end.ensures)) c.loop-place.invariant.copied c.loop-place.invariant.left in
    subst (λ places. IsPadded g.T.Blank.blank g.row.N places c.other.inside.len) (sym same) c.other.invariant

pub returns : goal.returns
returns g c =
    let same = copied_is g.T.Blank.blank g.row.N c.self.inside.places c.other.inside.places c.self.inside.len c.other.inside.len c.self.invariant c.other.invariant c.loop-place.self-inside.places c.loop-place.place c.loop-place.invariant.whole
    (omega (arith, c.loop-place-test.false, c.max-end.ensures)) (omega (arith, c.loop-place-test.false, c.max-end.ensures)) c.loop-place.invariant.copied c.loop-place.invariant.left in
    ap (take c.other.inside.len) same ∙ c.other.view_is
