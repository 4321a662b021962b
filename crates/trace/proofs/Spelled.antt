-- A record that has a text is put, and the records of what was read have texts.
use Rattle.std.proofs.Common.{◌≡◌, ◌<◌, ℕ, Bool, true, false, cond, Option, Some, None, List, [], ◌∷◌, length, get_or, refl, sym, ap, ◌∙◌, subst}
use Rattle.std.specs.Prelude.{IsSome}
use Rattle.std.specs.Fmt.{option_append, with_newline}
use Rattle.std.proofs.lemmas.List.Elements.{All-from_recursion, All-get_or}
use Rattle.world_calls.specs.declared.record.Record.{Record}
use Rattle.world_calls.specs.declared.trace.Version.{Version}
use Rattle.trace_lines.specs.Written.{IsPut}
use Rattle.trace_lines.proofs.Tests.{parts_of}
use Rattle.trace.specs.HasText.{AllHaveText, NumbersFit, HasText}
use Rattle.trace.specs.TraceText.{line_of, record_text, records_text}
use Rattle.trace.specs.Versions.{is_of}

-- a text that is put is that text
pub put_so : (text same : Option (List ℕ)) (old new : List ℕ) → text ≡ same → IsPut same old new → IsPut text old new
put_so text same old new is put = ap (option_append (Some old)) is ∙ put

-- a line that there is has a text
pub no_line : (told : Option (List ℕ)) → IsSome told → told ≡ None → ⊥
no_line told some none = let bad : IsSome {T = List ℕ} None = subst (λ (o : Option (List ℕ)). IsSome o) none some in absurd cc

chosen : (test : Bool) (told : Option (List ℕ)) → IsSome (with_newline (cond test told None)) → IsSome told × (with_newline (cond test told None) ≡ with_newline told)
chosen true (Some line) some = (refl, refl)
chosen true None some = absurd (let bad : false ≡ true = some in cc)
chosen false told some = absurd (let bad : false ≡ true = some in cc)

module _ (version : Version) where
  -- a record that has a text is of the version, and that is its line
  pub has_line : (entry : Record) → HasText version entry → NumbersFit entry → IsSome (line_of entry) × (record_text version entry ≡ with_newline (line_of entry))
  has_line entry has fits = chosen (is_of version entry) (line_of entry) (has fits)

  -- the record at a place has one
  pub has_there : (records : List Record) (place : ℕ) (entry : Record) → place < length records → entry ≡ get_or records place entry → AllHaveText version records → HasText version entry
  has_there records place entry within is all = subst (HasText version) (sym is) (All-get_or (HasText version) records place entry within (All-from_recursion (HasText version) records all))

  -- where all of them have one, each has
  pub have_texts : (records : List Record) (text : List ℕ) → records_text version records ≡ Some text → AllHaveText version records
  unfolding records_text
  have_texts [] text e = tt
  have_texts (first ∷ rest) text e =
      let parts = parts_of (record_text version first) (records_text version rest) text e in
      (λ fits. subst (λ (o : Option (List ℕ)). IsSome o) (sym parts.2) refl, have_texts rest parts.1 parts.3)
