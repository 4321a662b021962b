-- What stands before the last line feed of a text, and after it; and a trace that is closed.
use Rattle.std.proofs.Common.{◌≡◌, ◌≢◌, ◌<◌, ◌∙◌, ℕ, List, [], ◌++◌, ◌∷◌, Option, Some, None, IfSome, ap, arith, drop, get_or, inl, inr, length, string_bytes, subst, sym, take, take-append-drop}
use Rattle.std.specs.Prelude.{Contains, IsSomeAnd}
use Rattle.std.proofs.lemmas.List.{get_or_default}
use Rattle.trace.specs.declared.fault.TraceFault.{TraceFault}
use Rattle.cli_commands.specs.Faults.{status_of}
use Rattle.cli_commands.specs.Told.{IsAcceptedTrace, IsManifest}
use Rattle.cli_commands.specs.declared.fault.Fault.{Fault}
use Rattle.cli_commands.specs.declared.fault.Fault.TheVariants.{Trace}
use Rattle.cli_commands.proofs.Telling.{over_manifest as accepted_over}
use Rattle.cli_inspection.specs.Shown.{Closes, IsLastFeed, IsOpenTrace, IsWholeOrOpen}
use Rattle.cli_inspection.specs.declared.closing.ClosedTrace.{ClosedTrace}

-- a text is what stands before a line feed, and after it
pub joined : (text before after : List ℕ) (i j : ℕ) → drop i text ≡ 10 ∷ drop j text → before ≡ take i text → after ≡ drop j text → text ≡ before ++ 10 ∷ after
joined text before after i j cut first second = sym (take-append-drop i text) ∙ (ap (λ (l : List ℕ). take i text ++ l) cut ∙ λ k. sym first k ++ 10 ∷ sym second k)

-- after the last one there is none
pub has_none : (rest behind : List ℕ) → ((k : ℕ) → k < length rest → get_or rest k 0 ≢ 10) → behind ≡ rest → Contains behind 10 → ⊥
has_none rest behind lacks same there =
    let moved : Contains rest 10 = subst (λ (l : List ℕ). Contains l 10) same there in
    lacks moved.0 moved.1 (get_or_default rest moved.0 0 10 moved.1 ∙ moved.2)

-- a trace that is accepted or open is so over a manifest
pub over_manifest : (manifest text : List ℕ) → IsWholeOrOpen manifest text → IsManifest manifest
over_manifest manifest text told = elim told [
  | inl accepted ↦ accepted_over manifest text accepted
  | inr closed ↦ accepted_over manifest closed.0 closed.2
]

-- what was read has whole lines, and the text has these with another one after them
pub closes : (trace read lines rest last text : List ℕ) → read ≡ trace → IsLastFeed read lines rest → text ≡ lines ++ 10 ∷ last → last ≢ [] → Closes trace text
closes trace read lines rest last text same feed is some = (lines, rest, last, subst (λ (t : List ℕ). IsLastFeed t lines rest) same feed, is, some)

-- a trace that was closed, and is accepted so, is open
pub is_open : (manifest trace : List ℕ) (closing : Option ClosedTrace) → IfSome closing (λ it. Closes trace (string_bytes it.text))
    → IsSomeAnd closing (λ it. IsAcceptedTrace manifest (string_bytes it.text)) → IsOpenTrace manifest trace
is_open manifest trace None closed accepted = absurd accepted
is_open manifest trace (Some it) closed accepted = (string_bytes it.text, closed, accepted)

-- the text of what was closed is accepted
pub accepted_so : (manifest read : List ℕ) (closing : Option ClosedTrace) (it : ClosedTrace) → closing ≡ Some it → read ≡ string_bytes it.text → IsAcceptedTrace manifest read
    → IsSomeAnd closing (λ it. IsAcceptedTrace manifest (string_bytes it.text))
accepted_so manifest read closing it is same accepted =
    subst (λ (o : Option ClosedTrace). IsSomeAnd o (λ it. IsAcceptedTrace manifest (string_bytes it.text))) (sym is)
    (subst (λ (text : List ℕ). IsAcceptedTrace manifest text) same accepted)

-- the fault of a trace has no status 2
pub is_refused : (fault : Fault) (of : TraceFault) → fault ≡ Trace of → status_of fault ≡ 2 → ⊥
is_refused fault of is two = let bad : 1 ≡ 2 = ap status_of (sym is) ∙ two in omega (arith, bad)
