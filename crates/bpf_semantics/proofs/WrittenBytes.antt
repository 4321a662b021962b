-- Bytes that are all written are read as their numbers.
use Rattle.std.proofs.Common.{◌≡◌, ℕ, List, [], ◌∷◌, Option, Some, None, map, refl, ap, sym, ◌∙◌}
use Rattle.std.specs.Option.{option_map}
use Rattle.bpf_stack_frame.specs.Frame.{all_written, byte_of}

pub some_same : {X : Type 0} (x y : X) → Some x ≡ Some y → x ≡ y
some_same x y e = cc

-- bytes that are all written are their numbers
with_first : (byte : ℕ) (numbers : List ℕ) (o : Option (List ℕ)) (found : List ℕ) → ((rest : List ℕ) → o ≡ Some rest → rest ≡ numbers) → option_map (λ rest. byte ∷ rest) o ≡ Some found → found ≡ byte ∷ numbers
with_first byte numbers None found are e = absurd (let bad : None ≡ Some found = e in cc)
with_first byte numbers (Some rest) found are e = sym (some_same (byte ∷ rest) found e) ∙ ap (λ ns. byte ∷ ns) (are rest refl)

pub written_bytes : (bytes : List (Option ℕ)) (found : List ℕ) → all_written bytes ≡ Some found → found ≡ map byte_of bytes
written_bytes [] found e = sym (some_same [] found e)
written_bytes (None ∷ bytes) found e = absurd (let bad : None ≡ Some found = e in cc)
written_bytes (Some byte ∷ bytes) found e = with_first byte (map byte_of bytes) (all_written bytes) found (λ rest is. written_bytes bytes rest is) e
