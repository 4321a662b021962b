use Rattle.std.proofs.Common.{◌≢◌, ◌<◌, ℕ, List, Option, sym, subst, ap, take, ◌∙◌, arith}
use Rattle.std.proofs.lemmas.List.{get_or_default, get_or-set_other, length-set}
use Rattle.base.specs.Padded.{IsPadded}
use Rattle.base.proofs.Places.{copied_is, copied_more}
use Rattle.bpf_stack_frame.specs.Frame.{unwritten}
use Rattle.bpf_stack_frame.proofs.frames.Frames.copy_from.Goals as goal

pub loop-k-preserved : goal.loop-k-preserved
loop-k-preserved c =
    let now = c.loop-k.self-inside.frames in
    let others = c.other.inside.frames in
    let k = c.loop-k.k in
    let less : k < 8 = omega (arith, c.self.invariant.within, c.other.invariant.within, c.loop-k-test.true, c.max-end.ensures) in
    record {
      whole = length-set now k _ ∙ c.loop-k.invariant.whole;
      copied = copied_more unwritten 8 now others k _ less c.loop-k.invariant.whole c.other.invariant.whole
          (c.copy_from.ensures ∙ get_or_default others k _ _ (omega (arith, c.other.invariant.whole))) c.loop-k.invariant.copied;
      left = λ j past. let apart : j ≢ k = omega arith in get_or-set_other now k j _ unwritten apart ∙ c.loop-k.invariant.left j (omega arith);
    }

pub invariant_of-self : goal.invariant_of-self
invariant_of-self c =
    let same = copied_is unwritten 8 c.self.inside.frames c.other.inside.frames c.self.inside.depth c.other.inside.depth c.self.invariant c.other.invariant c.loop-k.self-inside.frames c.loop-k.k c.loop-k.invariant.whole
    (omega (arith, c.loop-k-test.false, c.max-end.ensures)) (omega (arith, c.loop-k-test.false, c.max-end.ensures)) c.loop-k.invariant.copied c.loop-k.invariant.left in
    subst (λ (frames : List (List (Option ℕ))). IsPadded unwritten 8 frames c.other.inside.depth) (sym same) c.other.invariant

pub returns : goal.returns
returns c =
    let same = copied_is unwritten 8 c.self.inside.frames c.other.inside.frames c.self.inside.depth c.other.inside.depth c.self.invariant c.other.invariant c.loop-k.self-inside.frames c.loop-k.k c.loop-k.invariant.whole
    (omega (arith, c.loop-k-test.false, c.max-end.ensures)) (omega (arith, c.loop-k-test.false, c.max-end.ensures)) c.loop-k.invariant.copied c.loop-k.invariant.left in
    ap (take c.other.inside.depth) same ∙ c.other.view_is
