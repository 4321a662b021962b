-- Sense bytes, and what is told of a stop.
use Rattle.std.proofs.Common.{◌≡◌, ◌≢◌, ◌<◌, ◌≤◌, ℕ, Bool, true, false, Option, Some, None, IfSome, List, [], ◌∷◌, ◌++◌, refl, sym, ap, ◌∙◌, arith, codes, bytes_eq, ◌⊎◌, inl, inr, rules, subst, append_assoc, append-nil, pos, ℤ, nat_lt, ◌^◌, decimal, Result, Ok, Err, OkIff, MatchOption, Bor, to_z, of_z, FitsSigned, w32}
use Rattle.std.specs.Result.{result_ok}
use Rattle.std.specs.Str.Pattern.{FindsTextPrefix, StripsPrefix}
use Rattle.std.proofs.lemmas.Int.{to_z-of_z}
use Rattle.std.specs.Prelude.{find}
use Rattle.std.specs.Option.{option_map}
use Rattle.std.specs.Ordering.{int_eq}
use Rattle.std.specs.Fmt.{option_append}
use Rattle.std.proofs.lemmas.Bool.{lt-ltb}
use Rattle.std.proofs.lemmas.Bool.Decides.{nat_tests}
use Rattle.helpers.specs.Table.{number_of, helper_of}
use Rattle.helpers.specs.declared.table.Helper.{Helper}
use Rattle.helpers.specs.declared.table.Row.{Row}
use Rattle.helpers.specs.declared.table.TheConstants.{HELPERS}
use Rattle.helpers.proofs.Numbers.{numbered}
use Rattle.trace_lines.specs.declared.value.Stop.{Stop}
use Rattle.trace_lines.specs.declared.value.Stop.TheVariants as stops
use Rattle.trace_lines.specs.Texts.{where_true, bytes_text, code_text, sense_text, number_text, stop_text, told_text, told_by, tells_name, tells_bytes, tells_code, helper_text, helper_number_text}
use Rattle.trace_lines.specs.Reading.{IsOf, ReadsTold, IsCut, ends_word}
use Rattle.trace_lines.proofs.Tests.{passed, parts_of, same_text, found_passes}
use Rattle.trace_lines.proofs.Cutting.{cut_once}
use Rattle.trace_lines.proofs.Decimals.{decimal_black}
use Rattle.trace_lines.specs.Written.{Reads}

said_sense : (word : List ℕ) (read : Option (List ℕ)) → IfSome read (λ v. bytes_text v ≡ Some word) → IfSome read (λ v. sense_text v ≡ Some word)
said_sense word None said = tt
said_sense word (Some []) said = absurd cc
said_sense word (Some (b ∷ bytes)) said = said

back_sense : (word : List ℕ) (read : Option (List ℕ)) → bytes_eq word (codes "-") ≡ false → Reads bytes_text word read → (v : List ℕ) → sense_text v ≡ Some word → read ≡ Some v
back_sense word read other reads [] e = let is : codes "-" ≡ word = cc in let same : bytes_eq (codes "-") (codes "-") ≡ false = rw (sym is) at other in absurd cc
back_sense word read other reads (b ∷ bytes) e = reads.back (b ∷ bytes) e

-- bytes that there are, where the word is not `-`
pub some_sense : (word : List ℕ) (read : Option (List ℕ)) → bytes_eq word (codes "-") ≡ false → Reads bytes_text word read → Reads sense_text word read
some_sense word read other reads = record {
  said = said_sense word read reads.said;
  back = λ v e. back_sense word read other reads v e;
}

-- ---- a helper by its number

same_number : (a b : ℕ) → int_eq (pos a) (pos b) ≡ true → a ≡ b
same_number a b h = grind (arith, nat_tests)

mapped : (o : Option Row) (helper : Helper) → option_map (λ (row : Row). row.helper) o ≡ Some helper → (row : Row) × (o ≡ Some row) × (row.helper ≡ helper)
mapped None helper e = absurd cc
mapped (Some row) helper e = (row, refl, cc)

number_found : (number : ℕ) (helper : Helper) → helper_of (pos number) ≡ Some helper → number_of helper ≡ number
number_found number helper e =
    let row = mapped (find (λ (row : Row). int_eq (pos (number_of row.helper)) (pos number)) HELPERS) helper e in
    let test : int_eq (pos (number_of row.0.helper)) (pos number) ≡ true = found_passes (λ (row : Row). int_eq (pos (number_of row.helper)) (pos number)) HELPERS row.0 row.1 in
    ap number_of (sym row.2) ∙ same_number (number_of row.0.helper) number test

pub small : (helper : Helper) → number_of helper < 256
small helper = search rules

number_there : (name : List ℕ) (read : Option ℕ) (helper : Helper) → Reads number_text name read → helper_number_text helper ≡ Some name → read ≡ Some (number_of helper)
number_there name read helper reads e =
    let fits : number_of helper < 2 ^ 32 = omega (arith, small helper) in
    let test : nat_lt (number_of helper) (2 ^ 32) ≡ true = lt-ltb (number_of helper) (2 ^ 32) fits in
    reads.back (number_of helper) (ap (λ (b : Bool). where_true b (decimal (number_of helper))) test ∙ e)

-- a number that is no byte is no helper's
pub large_is_none : (name : List ℕ) (number : ℕ) → Reads number_text name (Some number) → 256 ≤ number → Reads helper_number_text name None
large_is_none name number reads large = record {
  said = tt;
  back = λ helper e.
      let is = number_there name (Some number) helper reads e in
      let same : number ≡ number_of helper = cc in
      absurd (omega (arith, small helper));
}

said_helper : (name : List ℕ) (number : ℕ) (read : Option Helper) → decimal number ≡ name → helper_of (pos number) ≡ read → IfSome read (λ helper. helper_number_text helper ≡ Some name)
said_helper name number None is e = tt
said_helper name number (Some helper) is e = ap (λ (n : ℕ). Some (decimal n)) (number_found number helper e) ∙ ap Some is

pub reads_helper : (name : List ℕ) (number : ℕ) (read : Option Helper) → Reads number_text name (Some number) → read ≡ helper_of (pos number) → Reads helper_number_text name read
reads_helper name number read reads e =
    let told = passed (nat_lt number (2 ^ 32)) (decimal number) name reads.said in
    record {
      said = said_helper name number read told.1 (sym e);
      back = λ helper is.
          let there = number_there name (Some number) helper reads is in
          let same : number ≡ number_of helper = cc in
          e ∙ ap (λ (n : ℕ). helper_of (pos n)) same ∙ numbered helper;
    }

-- ---- what is told of a stop

-- what a helper tells after a blank
behind_blank : (test : Bool) (o : Option (List ℕ)) (text : List ℕ) → option_append (where_true test (codes " ")) o ≡ Some text → (test ≡ true) × (y : List ℕ) × (o ≡ Some y) × (text ≡ 32 ∷ y)
behind_blank test o text e =
    let parts = parts_of (where_true test (codes " ")) o text e in
    let first = passed test (codes " ") parts.0 parts.2 in
    (first.0, parts.1, parts.3, parts.4 ∙ ap (λ (t : List ℕ). t ++ parts.1) (sym first.1))

blank_there : (helper : Helper) (text : List ℕ) → tells_name (told_by helper) ≡ false → ((rest : List ℕ) → text ≢ 32 ∷ rest) → (stop : Stop) → told_text stop ≡ Some text → IsOf helper stop → ⊥
blank_there helper text other apart (stops.Helper called) e of =
    let test = (passed (tells_name (told_by called)) [] text e).0 in
    let same : tells_name (told_by helper) ≡ true = ap (λ (h : Helper). tells_name (told_by h)) (sym of) ∙ test in
    absurd cc
blank_there helper text other apart (stops.Bytes called bytes) e of = let parts = behind_blank (tells_bytes (told_by called)) (bytes_text bytes) text e in apart parts.1 parts.3
blank_there helper text other apart (stops.Code called code) e of = let parts = behind_blank (tells_code (told_by called)) (code_text code) text e in apart parts.1 parts.3
blank_there helper text other apart stops.Exit e of = of

-- where no blank stands, only a name is told
pub no_blank : (helper : Helper) (text : List ℕ) → tells_name (told_by helper) ≡ false → ((rest : List ℕ) → text ≢ 32 ∷ rest) → ReadsTold helper text None
no_blank helper text other apart = record { said = tt; back = λ stop e of. absurd (blank_there helper text other apart stop e of) }

-- ---- the whole of a stop

-- a stop that is no exit is a helper's call, and what is told after it
pub record IsCall (text : List ℕ) (stop : Stop) : Type 0 where
  pub helper : Helper
  pub told : List ℕ
  pub of : IsOf helper stop
  pub is : told_text stop ≡ Some told
  pub whole : text ≡ helper_text helper ++ told
  pub ends : ends_word told ≡ true

told_behind : (test : Bool) (o : Option (List ℕ)) (y : List ℕ) → test ≡ true → o ≡ Some y → option_append (where_true test (codes " ")) o ≡ Some (32 ∷ y)
told_behind test o y e f = rw (e, f) refl

call_of_blank : (helper : Helper) (test : Bool) (o : Option (List ℕ)) (text : List ℕ) → option_append (where_true test (helper_text helper ++ codes " ")) o ≡ Some text
    → (y : List ℕ) × (option_append (where_true test (codes " ")) o ≡ Some (32 ∷ y)) × (text ≡ helper_text helper ++ (32 ∷ y))
call_of_blank helper test o text e =
    let parts = parts_of (where_true test (helper_text helper ++ codes " ")) o text e in
    let first = passed test (helper_text helper ++ codes " ") parts.0 parts.2 in
    (parts.1, told_behind test o parts.1 first.0 parts.3, parts.4 ∙ ap (λ (t : List ℕ). t ++ parts.1) (sym first.1) ∙ append_assoc (helper_text helper) (codes " ") parts.1)

pub stop_parts : (stop : Stop) (text : List ℕ) → stop_text stop ≡ Some text → (text ≡ codes "exit") ⊎ IsCall text stop
stop_parts (stops.Helper called) text e =
    let told = passed (tells_name (told_by called)) (helper_text called) text e in
    inr (record { helper = called; told = []; of = refl; is = rw told.0 refl; whole = sym told.1 ∙ sym (append-nil (helper_text called)); ends = refl })
stop_parts (stops.Bytes called bytes) text e =
    let parts = call_of_blank called (tells_bytes (told_by called)) (bytes_text bytes) text e in
    inr (record { helper = called; told = 32 ∷ parts.0; of = refl; is = parts.1; whole = parts.2; ends = refl })
stop_parts (stops.Code called code) text e =
    let parts = call_of_blank called (tells_code (told_by called)) (code_text code) text e in
    inr (record { helper = called; told = 32 ∷ parts.0; of = refl; is = parts.1; whole = parts.2; ends = refl })
stop_parts stops.Exit text e = inl cc

whole_of_blank : (helper : Helper) (test : Bool) (o : Option (List ℕ)) (told : List ℕ) → option_append (where_true test (codes " ")) o ≡ Some told
    → option_append (where_true test (helper_text helper ++ codes " ")) o ≡ Some (helper_text helper ++ told)
whole_of_blank helper test o told e =
    let parts = behind_blank test o told e in
    rw (parts.0, parts.2) (ap Some (append_assoc (helper_text helper) (codes " ") parts.1 ∙ ap (λ (t : List ℕ). helper_text helper ++ t) (sym parts.3)))

whole_of : (helper : Helper) (stop : Stop) (told : List ℕ) → IsOf helper stop → told_text stop ≡ Some told → stop_text stop ≡ Some (helper_text helper ++ told)
whole_of helper (stops.Helper called) told of e =
    let parts = passed (tells_name (told_by called)) [] told e in
    rw (parts.0, sym parts.1, append-nil (helper_text helper)) (ap (λ (h : Helper). Some (helper_text h)) of)
whole_of helper (stops.Bytes called bytes) told of e = whole_of_blank called (tells_bytes (told_by called)) (bytes_text bytes) told e ∙ ap (λ (h : Helper). Some (helper_text h ++ told)) of
whole_of helper (stops.Code called code) told of e = whole_of_blank called (tells_code (told_by called)) (code_text code) told e ∙ ap (λ (h : Helper). Some (helper_text h ++ told)) of
whole_of helper stops.Exit told of e = absurd of

tail_same : (a b : List ℕ) → codes "helper " ++ a ≡ codes "helper " ++ b → a ≡ b
tail_same a b e = cc

-- a text after `helper `, cut at its first blank
module _ (text inner word behind : List ℕ) (front : text ≡ codes "helper " ++ inner) (cut : IsCut inner word behind) where
  same_parts : (stop : Stop) → stop_text stop ≡ Some text → (helper : Helper) × (told : List ℕ) × IsOf helper stop × (told_text stop ≡ Some told) × (decimal (number_of helper) ≡ word) × (told ≡ behind)
  same_parts stop e = elim (stop_parts stop text e) [
    | inl exit ↦ absurd (let clash : codes "exit" ≡ codes "helper " ++ inner = sym exit ∙ front in cc)
    | inr call ↦
        let joined : decimal (number_of call.helper) ++ call.told ≡ word ++ behind =
        tail_same (decimal (number_of call.helper) ++ call.told) inner (sym (append_assoc (codes "helper ") (decimal (number_of call.helper)) call.told) ∙ sym call.whole ∙ front) ∙ cut.whole in
        let fits : number_of call.helper < 2 ^ 64 = omega (arith, small call.helper) in
        let parts = cut_once (decimal (number_of call.helper)) word call.told behind joined (decimal_black (number_of call.helper) fits) call.ends cut.black cut.ends in
        (call.helper, call.told, call.of, call.is, parts.0, parts.1)
  ]

  pub no_helper : Reads helper_number_text word None → Reads stop_text text None
  no_helper none = record {
    said = tt;
    back = λ stop e.
        let parts = same_parts stop e in
        let there = none.back parts.0 (ap Some parts.4) in
        absurd cc;
  }

  said_stop : (helper : Helper) (read : Option Stop) → decimal (number_of helper) ≡ word → IfSome read (λ stop. (told_text stop ≡ Some behind) × IsOf helper stop) → IfSome read (λ stop. stop_text stop ≡ Some text)
  said_stop helper None is said = tt
  said_stop helper (Some stop) is said =
      whole_of helper stop behind said.1 said.0
      ∙ ap Some (append_assoc (codes "helper ") (decimal (number_of helper)) behind ∙ ap (λ (w : List ℕ). codes "helper " ++ (w ++ behind)) is ∙ ap (λ (t : List ℕ). codes "helper " ++ t) (sym cut.whole) ∙ sym front)

  pub reads_stop : (helper : Helper) (read : Option Stop) → Reads helper_number_text word (Some helper) → ReadsTold helper behind read → Reads stop_text text read
  reads_stop helper read named told = record {
    said = said_stop helper read (same_text (decimal (number_of helper)) word named.said) told.said;
    back = λ stop e.
        let parts = same_parts stop e in
        let there = named.back parts.0 (ap Some parts.4) in
        let same : helper ≡ parts.0 = cc in
        told.back stop (parts.3 ∙ ap Some parts.5) (subst (λ h. IsOf h stop) (sym same) parts.2);
  }

-- a number that was narrowed is that number, and fits
pub narrowed : {E : Type 0} (read : Result ℕ E) (number small_number : ℕ) → OkIff read (number < 256) number → Some small_number ≡ result_ok read → (small_number ≡ number) × (small_number < 256)
narrowed (Ok n) number small_number is e = let same : small_number ≡ n = cc in (same ∙ is.1, subst (λ k. k < 256) (sym (same ∙ is.1)) is.0)
narrowed (Err fault) number small_number is e = absurd cc

-- what follows a text
pub behind_text : (front text : List ℕ) (read : Option (Bor (List ℕ))) → MatchOption read (FindsTextPrefix front text None) (λ x. StripsPrefix (FindsTextPrefix front) text x.now)
    → MatchOption read ((rest : List ℕ) → text ≢ front ++ rest) (λ x. text ≡ front ++ x.now)
behind_text front text None is = is
behind_text front text (Some x) is = is.1.1 ∙ ap (λ (t : List ℕ). front ++ t) (sym is.2)

-- the helper of a number below 256
pub helper_of_small : (read : Option Helper) (z : ℤ) (number : ℕ) → z ≡ pos number → number < 256 → read ≡ helper_of (to_z w32 (of_z w32 z)) → read ≡ helper_of (pos number)
helper_of_small read z number is fits e =
    let sfits : FitsSigned w32 (pos number) = record { sfits = omega arith } in
    e ∙ ap (λ (y : ℤ). helper_of (to_z w32 (of_z w32 y))) is ∙ ap helper_of (to_z-of_z w32 (pos number) sfits)
