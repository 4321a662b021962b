-- How a line comes, byte by byte.
use Rattle.std.proofs.Common.{◌≡◌, ◌+◌, ◌-◌, ◌*◌, ◌<◌, ◌≤◌, ℕ, true, Option, List, [], ◌∷◌, ◌++◌, length, length-append, refl, ap, sym, subst, ◌∙◌, append_assoc, append-nil, arith}
use Rattle.std.specs.Io.KnownBytes.{Consumes}
use Rattle.std.proofs.KnownBytes.{Consumes-trans}
use Rattle.trace.specs.declared.laws.TheConstants.{LONGEST_LINE}
use Rattle.trace.proofs.Cuts.{IsOneLine, is_in_line, line_both}
use Rattle.std.proofs.lemmas.Bool.Decides.{nat_tests}

-- how many bytes more a line may have, and whether more is to be read: twice as many turns
abbrev pub nothing_ahead : List ℕ → ℕ
nothing_ahead [] = 1
nothing_ahead (b ∷ ahead) = 0

abbrev pub turns : List ℕ → List ℕ → ℕ
turns line ahead = 2 * (LONGEST_LINE - length line) + nothing_ahead ahead

at_most_one : (ahead : List ℕ) → nothing_ahead ahead ≤ 1
at_most_one [] = omega arith
at_most_one (b ∷ ahead) = omega arith

-- what was read since, with what was ahead, is the line so far and what is ahead
pub record IsSoFar (from now : Option (List ℕ)) (first line ahead : List ℕ) : Type 0 where
  pub given : List ℕ
  pub consumed : Consumes from now given
  pub is : first ++ given ≡ line ++ ahead
  pub one : IsOneLine line

in_line : (byte : ℕ) → (byte ≡ 10 → ⊥) → is_in_line byte ≡ true
in_line byte other = grind (arith, nat_tests)

one_byte : (byte : ℕ) → (byte ≡ 10 → ⊥) → IsOneLine (byte ∷ [])
one_byte byte other = rw (in_line byte other) refl

-- the line is too long
pub long_so : (from now : Option (List ℕ)) (first line ahead after : List ℕ) (byte : ℕ) → IsSoFar from now first line ahead → ahead ≡ byte ∷ after → (byte ≡ 10 → ⊥) → LONGEST_LINE ≤ length line
    → (given : List ℕ) × Consumes from now given × (more : List ℕ) × (rest : List ℕ) × (first ++ given ≡ more ++ rest) × IsOneLine more × (LONGEST_LINE < length more)
long_so from now first line ahead after byte so is other long = (
  so.given,
  so.consumed,
  line ++ byte ∷ [],
  after,
  so.is ∙ (ap (λ (t : List ℕ). line ++ t) is ∙ sym (append_assoc line (byte ∷ []) after)),
  line_both line (byte ∷ []) so.one (one_byte byte other),
  omega (arith, long, length-append line (byte ∷ [])),
)

-- more was read
pub filled_so : (from now then : Option (List ℕ)) (first line same ahead after : List ℕ) → IsSoFar from now first line ahead → ahead ≡ [] → same ≡ line → Consumes now then after → IsSoFar from then first same after
filled_so from now then first line same ahead after so none is more = record {
  given = so.given ++ after;
  consumed = Consumes-trans from now then so.given after so.consumed more;
  is = sym (append_assoc first so.given after) ∙ (ap (λ (t : List ℕ). t ++ after) (so.is ∙ (ap (λ (t : List ℕ). line ++ t) none ∙ append-nil line)) ∙ ap (λ (t : List ℕ). t ++ after) (sym is));
  one = subst IsOneLine (sym is) so.one;
}
