-- Texts that there are, one after the other.
use Rattle.std.proofs.Common.{◌≡◌, ◌<◌, ◌^◌, ℕ, Bool, true, false, cond, Option, Some, None, List, refl, codes, decimal, nat_lt}
use Rattle.std.specs.Prelude.{IsSome}
use Rattle.std.specs.Fmt.{option_append, with_newline}
use Rattle.std.proofs.lemmas.Bool.{lt-ltb}
use Rattle.world_calls.specs.declared.record.Record.{Record}
use Rattle.trace_lines.specs.Answers.{named_number_text}
use Rattle.trace_lines.specs.Texts.{long_number_text, number_text, where_true}
use Rattle.trace.specs.HasText.{NumbersFit}
use Rattle.trace.specs.TraceText.{line_of}

pub some_append : (a b : Option (List ℕ)) → IsSome a → IsSome b → IsSome (option_append a b)
some_append None b p q = absurd (let bad : false ≡ true = p in cc)
some_append (Some a) None p q = absurd (let bad : false ≡ true = q in cc)
some_append (Some a) (Some b) p q = refl

pub some_where : (test : Bool) (text : List ℕ) → test ≡ true → IsSome (where_true test text)
some_where true text e = refl
some_where false text e = absurd (let bad : false ≡ true = e in cc)

pub some_number : (number : ℕ) → number < 2 ^ 32 → IsSome (number_text number)
some_number number fits = some_where (nat_lt number (2 ^ 32)) (decimal number) (lt-ltb number (2 ^ 32) fits)

pub some_long_number : (number : ℕ) → number < 2 ^ 64 → IsSome (long_number_text number)
some_long_number number fits = some_where (nat_lt number (2 ^ 64)) (decimal number) (lt-ltb number (2 ^ 64) fits)

pub some_named : (name : List ℕ) (number : ℕ) → number < 2 ^ 32 → IsSome (named_number_text name number)
some_named name number fits = some_append (Some name) (number_text number) refl (some_number number fits)

-- a field after its blank
pub some_field : (text : Option (List ℕ)) → IsSome text → IsSome (option_append (Some (codes " ")) text)
some_field text is = some_append (Some (codes " ")) text refl is

-- a word and what four slots hold
pub some_line : (word : List ℕ) (a b c d : Option (List ℕ)) → IsSome a → IsSome b → IsSome c → IsSome d → IsSome (option_append (Some word) (option_append a (option_append b (option_append c d))))
some_line word a b c d p q r s = some_append (Some word) _ refl (some_append a _ p (some_append b _ q (some_append c d r s)))

-- a record's line, where its numbers and bytes are such
abbrev pub HasLine : Record → Type 0
HasLine entry = NumbersFit entry → IsSome (with_newline (line_of entry))

-- what was asked and what was told, with the line feed
pub some_entry : (asked told : Option (List ℕ)) → IsSome asked → IsSome told → IsSome (with_newline (option_append asked (option_append (Some (codes " = ")) told)))
some_entry None told p q = absurd (let bad : false ≡ true = p in cc)
some_entry (Some asked) None p q = absurd (let bad : false ≡ true = q in cc)
some_entry (Some asked) (Some told) p q = refl

-- where the test holds it is the line
pub some_tested : (test : Bool) (told : Option (List ℕ)) → test ≡ true → IsSome (with_newline told) → IsSome (with_newline (cond test told None))
some_tested true told e some = some
some_tested false told e some = absurd (let bad : false ≡ true = e in cc)
