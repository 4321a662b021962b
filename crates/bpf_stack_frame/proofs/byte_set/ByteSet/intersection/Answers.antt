use Rattle.std.proofs.Common.{◌≢◌, ℕ, Bool, false, List, set, ap, sym, refl, ◌∙◌, arith, inl, inr}
use Rattle.std.specs.Prelude.{bit_and, slice_index, slice_index_or, ◌&&◌}
use Rattle.std.proofs.lemmas.Bool.{cases_eq}
use Rattle.std.proofs.lemmas.List.{length-set, get_or-set_same, get_or-set_other}
use Rattle.bpf_stack_frame.specs.SetWords.{set_of}
use Rattle.bpf_stack_frame.proofs.Words.{length-set_of, set_of-both, both_kept}
use Rattle.bpf_stack_frame.proofs.byte_set.ByteSet.intersection.Goals as goal

pub loop-k-init : goal.loop-k-init
loop-k-init c = (c.self.told, λ j less. absurd (omega arith), λ j from. refl)

pub loop-k-preserved : goal.loop-k-preserved
loop-k-preserved c =
    let old = c.loop-k.words in
    let at = c.loop-k.k in
    let new = bit_and (slice_index old at) (slice_index c.other.inside.words at) in
    let long = c.loop-k.invariant.0 in (
      length-set old at new ∙ long,
      λ j less. elim (cases_eq j at) [
        | inl same ↦
            ap (λ (n : ℕ). slice_index (set old at new) n) same
            ∙ get_or-set_same old at new 0 (omega arith)
            ∙ ap (λ (n : ℕ). bit_and n (slice_index c.other.inside.words at)) (c.loop-k.invariant.2 at (omega arith))
            ∙ ap (λ (n : ℕ). bit_and (slice_index c.self.inside.words n) (slice_index c.other.inside.words n)) (sym same)
        | inr apart ↦ get_or-set_other old at j new 0 apart ∙ c.loop-k.invariant.1 j (omega arith)
      ],
      λ j from. (let apart : j ≢ at = omega arith in get_or-set_other old at j new 0 apart ∙ c.loop-k.invariant.2 j (omega arith)),
    )

pub invariant_of-result : goal.invariant_of-result
invariant_of-result c =
    both_kept c.self.inside.words c.other.inside.words c.loop-k.words (λ j less. c.loop-k.invariant.1 j (omega arith)) c.loop-k.invariant.0 c.self.invariant c.other.invariant

pub returns-clause-bytes : goal.returns-clause-bytes
returns-clause-bytes c k =
    set_of-both c.self.inside.words c.other.inside.words c.loop-k.words (λ j less. c.loop-k.invariant.1 j (omega arith)) k
    ∙ ap (λ (bytes : List Bool). slice_index_or bytes k false && slice_index_or (set_of c.other.inside.words) k false) c.self.view_is
    ∙ ap (λ (bytes : List Bool). slice_index_or c.args.self.now k false && slice_index_or bytes k false) c.other.view_is

pub returns-clause-len : goal.returns-clause-len
returns-clause-len c = length-set_of c.loop-k.words
