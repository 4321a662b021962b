-- What is said where a line came, or none.
use Rattle.std.proofs.Common.{◌≡◌, ◌≢◌, ◌+◌, ◌<◌, ℕ, Option, Some, None, Err, List, [], ◌∷◌, ◌++◌, length, ap, sym, subst, refl, ◌∙◌, append_assoc, arith}
use Rattle.std.specs.Io.KnownBytes.{Consumes}
use Rattle.base.specs.declared.or_memory.OrMemory.{OrMemory}
use Rattle.base.specs.declared.or_memory.OrMemory.TheVariants.{Fault}
use Rattle.world_calls.specs.declared.totals.Totals.{Totals}
use Rattle.world.specs.World.{Setup}
use Rattle.trace.specs.declared.fault.TraceFault.TheVariants.{Line}
use Rattle.trace.specs.declared.laws.TheConstants.{LONGEST_LINE}
use Rattle.trace.proofs.Cuts.{IsOneLine}
use Rattle.whole_trace.specs.WholeText.{HasNoHeader}
use Rattle.host_recovery.specs.Sources.{IsAll}
use Rattle.host_recovery.specs.Carries.{first_text}
use Rattle.host_recovery.specs.Recovering.{Answers}
use Rattle.host_recovery.specs.Reads.{ReadingState, StandsAt, TookSays}
use Rattle.host_recovery.specs.declared.reading.Took.{Took}
use Rattle.host_recovery.specs.declared.first_line.First.{First}
use Rattle.host_recovery.specs.declared.first_line.First.TheVariants.{Plain, Continued}
use Rattle.host_recovery.specs.declared.fault.RecoveryFault.{RecoveryFault}
use Rattle.host_recovery.specs.declared.fault.RecoveryFault.TheVariants.{Form}
use Rattle.host_recovery.proofs.Cutting.{all_of, front_nothing, other_line, rest_of, too_long}
use Rattle.host_recovery.proofs.Standing.{breaks_behind_end, broken_at, given_more}

-- nothing is said of it
pub some_text : (from : Option (List ℕ)) → (text : List ℕ) × IsAll from text × Unit {0}
some_text None = ([], tt, tt)
some_text (Some bytes) = (bytes, refl, tt)

pub not_nothing : (line : List ℕ) (byte : ℕ) (rest : List ℕ) → line ++ byte ∷ rest ≡ [] → ⊥
not_nothing [] byte rest e = cc
not_nothing (x ∷ line) byte rest e = let bad : x ∷ (line ++ byte ∷ rest) ≡ [] = e in cc

pub long_is_some : (line rest : List ℕ) → LONGEST_LINE < length line → line ++ rest ≡ [] → ⊥
long_is_some line rest long e = omega (arith, long, ap length (front_nothing line rest e))

-- ---- the first line

abbrev HasNoFirst : Option (List ℕ) → Type 0
HasNoFirst from = (text : List ℕ) × IsAll from text × HasNoHeader text

no_header : (text : List ℕ) → ((first : First) (rest : List ℕ) → text ≢ first_text first ++ rest) → HasNoHeader text
no_header text none = record { plain = λ version. none (Plain version); continued = λ version. none (Continued version) }

module _ (from now : Option (List ℕ)) (before given : List ℕ) (none : before ≡ []) (consumed : Consumes from now given) where
  begins : (text : List ℕ) → before ++ given ≡ text → given ++ rest_of now ≡ text ++ rest_of now
  begins text is = ap (λ (t : List ℕ). t ++ rest_of now) (ap (λ (b : List ℕ). b ++ given) (sym none) ∙ is)

  pub first_other : (line after told : List ℕ) → before ++ given ≡ line ++ 10 ∷ after → IsOneLine line → told ≡ line → ((first : First) → told ++ 10 ∷ [] ≢ first_text first) → HasNoFirst from
  first_other line after told is one same other = (
    given ++ rest_of now,
    all_of from now given consumed,
    no_header (given ++ rest_of now) (λ first rest e. other_line line (after ++ rest_of now) one (λ v f. other v (ap (λ (t : List ℕ). t ++ 10 ∷ []) same ∙ f)) first rest
        (sym (append_assoc line (10 ∷ after) (rest_of now)) ∙ (sym (begins (line ++ 10 ∷ after) is) ∙ e))),
  )

  pub first_long : (line rest : List ℕ) → before ++ given ≡ line ++ rest → IsOneLine line → LONGEST_LINE < length line → HasNoFirst from
  first_long line rest is one long = (
    given ++ rest_of now,
    all_of from now given consumed,
    no_header (given ++ rest_of now) (λ first more e. too_long line (rest ++ rest_of now) one long first more (sym (append_assoc line rest (rest_of now)) ∙ (sym (begins (line ++ rest) is) ∙ e))),
  )

-- ---- after the last line

pub broken_behind_end : (config : Setup) (from now after : Option (List ℕ)) (totals : Totals) (reading : ReadingState) (ahead given beyond : List ℕ) (count : ℕ) (error : OrMemory RecoveryFault) → StandsAt config from now (Some totals) ahead reading
    → Consumes now after given → ahead ++ given ≡ beyond → (beyond ≡ [] → ⊥) → count ≡ reading.carried + reading.count → error ≡ Fault (Form (Line (count + 1 + 2))) → Answers config from (Err error)
broken_behind_end config from now after totals reading ahead given beyond count error stands more is some counted tells =
    subst (λ (e : OrMemory RecoveryFault). Answers config from (Err e)) (ap (λ (n : ℕ). Fault (Form (Line (n + 1 + 2)))) (sym counted) ∙ sym tells)
    (breaks_behind_end config from after reading totals beyond (given_more config from now (Some totals) ahead reading stands after given beyond more is) some)

-- a line that is none, told with its number
pub tells_broken : (config : Setup) (from : Option (List ℕ)) (count counted : ℕ) (error : OrMemory RecoveryFault) → count ≡ counted → error ≡ Fault (Form (Line (count + 2))) → Answers config from (broken_at (counted + 2)) → Answers config from (Err error)
tells_broken config from count counted error same tells = subst (λ (e : OrMemory RecoveryFault). Answers config from (Err e)) (ap (λ (n : ℕ). Fault (Form (Line (n + 2)))) (sym same) ∙ sym tells)

-- what a line was
pub took_it : (old new : ReadingState) (told line : List ℕ) (found its : Took) → found ≡ its → told ≡ line → TookSays old told found new → TookSays old line its new
took_it old new told line found its same is says = subst (λ (t : Took). TookSays old line t new) same (subst (λ (l : List ℕ). TookSays old l found new) is says)
