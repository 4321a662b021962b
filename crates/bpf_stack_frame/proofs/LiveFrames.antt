-- The live frames after one more, or one fewer.
use Rattle.std.proofs.Common.{◌≡◌, ℕ, ◌+◌, ◌<◌, List, [], ◌∷◌, ◌++◌, Option, None, take, replicate, set, refl, ap, sym, subst, ◌∙◌, arith}
use Rattle.base.specs.Padded.{IsPadded}
use Rattle.base.proofs.Places.{kept_none, kept_more, kept_less, more_is}
use Rattle.bpf_stack_frame.specs.Frame.{unwritten}

pub unwritten_is : unwritten ≡ replicate 512 None
unfolding unwritten
unwritten_is = refl

module _ (frames : List (List (Option ℕ))) (depth : ℕ) (is : IsPadded unwritten 8 frames depth) where
  pub opened_is : (live : List (List (Option ℕ))) → take depth frames ≡ live → depth < 8 → take (depth + 1) frames ≡ live ++ replicate 512 None ∷ []
  opened_is live view room = more_is unwritten 8 frames depth is live view room ∙ ap (λ (f : List (Option ℕ)). live ++ f ∷ []) unwritten_is

  pub kept_closed : (less : ℕ) (frame : List (Option ℕ)) → less + 1 ≡ depth → frame ≡ replicate 512 None → IsPadded unwritten 8 (set frames less frame) less
  kept_closed less frame at none =
      subst (λ (f : List (Option ℕ)). IsPadded unwritten 8 (set frames less f) less) (unwritten_is ∙ sym none) (kept_less unwritten 8 frames depth is less at)

-- one frame alone
pub kept_one : (frame : List (Option ℕ)) → frame ≡ replicate 512 None → IsPadded unwritten 8 (replicate 8 frame) 1
kept_one frame none =
    subst (λ (f : List (Option ℕ)). IsPadded unwritten 8 (replicate 8 f) 1) (unwritten_is ∙ sym none)
    (kept_more unwritten 8 (replicate 8 unwritten) 0 (kept_none unwritten 8) (omega arith))
