-- A text begins with one list of carried lines, after which none stands; and no carried line stands where a record's or the last one does.
use Rattle.std.proofs.Common.{◌≡◌, ◌≢◌, ◌+◌, ◌<◌, length, take, ℕ, IfNone, Option, Some, None, List, [], ◌∷◌, ◌++◌, refl, sym, ap, ◌∙◌, append_assoc, append-nil, codes}
use Rattle.std.specs.Fmt.{option_append, with_newline}
use Rattle.world_calls.specs.declared.carried_line.CarriedLine.{CarriedLine}
use Rattle.world_calls.specs.declared.record.Record.{Record}
use Rattle.world_calls.specs.declared.totals.Totals.{Totals}
use Rattle.world_calls.specs.declared.trace.Version.{Version}
use Rattle.trace_lines.specs.Lines.{line_text}
use Rattle.trace_lines.specs.Written.{Reads}
use Rattle.trace_lines.proofs.Tests.{parts_of, same_text}
use Rattle.trace.specs.Reading.{HasNoLine}
use Rattle.trace.specs.TraceText.{asked_of, entry_text, lines_text, record_text, records_text, sums_text, told_text, totals_text}
use Rattle.trace.proofs.Cuts.{HasNoFeed, IsFirstLine, IsOneLine, first_of, line_of_plain}
use Rattle.trace.proofs.Entries.{of_entry, one_line}
use Rattle.trace.proofs.LastLine.{one_last_line}
use Rattle.trace.proofs.Printing.{append_three, append_nothing, nothing_append}
use Rattle.trace.proofs.SoFar.{in_front}
use Rattle.carried_lines.specs.CarriedText.{carried_text}
use Rattle.carried_lines.proofs.NoMarks.{no_end, no_record, plain_line}
use Rattle.carried_lines.proofs.Whole.{one_line as one_carried}
use Rattle.carried_lines.specs.FirstLine.{continued_header}
use Rattle.whole_trace.specs.Continued.{BeginsWith, HasNoCarried, carried_texts}
use Rattle.base.specs.declared.or_memory.OrMemory.{OrMemory}
use Rattle.base.specs.declared.or_memory.OrMemory.TheVariants.{OutOfMemory, Fault}
use Rattle.trace_lines.specs.declared.no_text.NoText.{NoText}
use Rattle.whole_trace.specs.Front.{IsUnprinted, IsUntold, front_text}

-- a carried line's text is one line
pub is_one : (version : Version) (line : CarriedLine) (text : List ℕ) → carried_text version line ≡ Some text → IsOneLine text
is_one version line text e = line_of_plain text (plain_line version line text e)

-- what a text that begins with a carried line is
record Begins (version : Version) (line : CarriedLine) (more text : List ℕ) : Type 0 where
  told : List ℕ
  is : carried_text version line ≡ Some told
  first : IsFirstLine text told more

begins : (version : Version) (line : CarriedLine) (more text : List ℕ) → BeginsWith version line more text → Begins version line more text
begins version line more text e =
    let a = parts_of (with_newline (carried_text version line)) (Some more) text e in
    let b = parts_of (carried_text version line) (Some (10 ∷ [])) a.0 a.2 in
    let ended : a.0 ≡ b.0 ++ 10 ∷ [] = b.4 ∙ ap (λ (t : List ℕ). b.0 ++ t) (sym (same_text (10 ∷ []) b.1 b.3)) in
    let behind : a.1 ≡ more = sym (same_text more a.1 a.3) in
    let whole : text ≡ b.0 ++ 10 ∷ more = a.4 ∙ ap (λ (t : List ℕ). t ++ a.1) ended ∙ append_assoc b.0 (10 ∷ []) a.1 ∙ ap (λ (t : List ℕ). b.0 ++ 10 ∷ t) behind in
    record { told = b.0; is = b.2; first = first_of text b.0 more (is_one version line b.0 b.2) whole }

-- two carried lines in front are one
pub record SameLine (line other : CarriedLine) (more rest : List ℕ) : Type 0 where
  pub line_is : line ≡ other
  pub rest_is : more ≡ rest

pub same_line : (version : Version) (line other : CarriedLine) (more rest text : List ℕ) → BeginsWith version line more text → BeginsWith version other rest text → SameLine line other more rest
same_line version line other more rest text e f =
    let a = begins version line more text e in
    let there = in_front text a.told more a.first (carried_text version other) (Some rest) (is_one version other) f in
    record { line_is = one_carried version line other a.told a.is there.0; rest_is = same_text more rest (sym there.1) }

-- ---- no other line of a trace

-- no record's line stands there
pub not_a_record : (version : Version) (line : CarriedLine) (more text : List ℕ) → BeginsWith version line more text → (entry : Record) (rest : List ℕ) → option_append (record_text version entry) (Some rest) ≢ Some text
not_a_record version line more text e entry rest f =
    let a = begins version line more text e in
    let there = in_front text a.told more a.first (entry_text version entry) (Some rest) (one_line version entry) f in
    let its = of_entry version entry a.told there.0 in
    no_record version line (line_text (asked_of entry).0 (asked_of entry).1) (told_text entry) a.told its.1 a.is

-- nor the last line
pub not_the_last : (version : Version) (line : CarriedLine) (more text : List ℕ) → BeginsWith version line more text → (totals : Totals) (rest : List ℕ) → option_append (totals_text totals) (Some rest) ≢ Some text
not_the_last version line more text e totals rest f =
    let a = begins version line more text e in
    let there = in_front text a.told more a.first (sums_text totals) (Some rest) (one_last_line totals) f in
    let parts = parts_of (Some (codes "end")) _ a.told there.0 in
    let is : a.told ≡ codes "end" ++ parts.1 = parts.4 ∙ ap (λ (t : List ℕ). t ++ parts.1) (sym (same_text (codes "end") parts.0 parts.2)) in
    no_end version line parts.1 (a.is ∙ ap Some is)

pub no_other : (version : Version) (line : CarriedLine) (more text : List ℕ) → BeginsWith version line more text → HasNoLine version text
no_other version line more text e = record { no_record = not_a_record version line more text e; no_end = not_the_last version line more text e }

alone : (version : Version) (totals : Totals) (text : List ℕ) → lines_text version [] totals ≡ Some text → option_append (totals_text totals) (Some []) ≡ Some text
unfolding records_text
alone version totals text e = append_nothing (totals_text totals) ∙ sym (nothing_append (totals_text totals)) ∙ e

with_rest : (version : Version) (entry : Record) (others : List Record) (totals : Totals) (text : List ℕ) → lines_text version (entry ∷ others) totals ≡ Some text
    → (rest : List ℕ) × (option_append (record_text version entry) (Some rest) ≡ Some text)
unfolding records_text
with_rest version entry others totals text e =
    let there : option_append (record_text version entry) (lines_text version others totals) ≡ Some text = sym (append_three (record_text version entry) (records_text version others) (totals_text totals)) ∙ e in
    let parts = parts_of (record_text version entry) (lines_text version others totals) text there in
    (parts.1, ap (option_append (record_text version entry)) (sym parts.3) ∙ there)

-- where records or the last line stand, no carried line does
pub no_carried : (version : Version) (records : List Record) (totals : Totals) (text : List ℕ) → lines_text version records totals ≡ Some text → HasNoCarried version text
no_carried version [] totals text e line more f = not_the_last version line more text f totals [] (alone version totals text e)
no_carried version (entry ∷ others) totals text e line more f = let there = with_rest version entry others totals text e in not_a_record version line more text f entry there.0 there.1

-- and what has no line of a trace in front is that of none
pub no_lines : (version : Version) (records : List Record) (totals : Totals) (text : List ℕ) → HasNoLine version text → lines_text version records totals ≢ Some text
no_lines version [] totals text none e = none.no_end totals [] (alone version totals text e)
no_lines version (entry ∷ others) totals text none e = let there = with_rest version entry others totals text e in none.no_record entry there.0 there.1

-- ---- lists of lines

pub texts_push : (version : Version) (lines : List CarriedLine) (line : CarriedLine) → carried_texts version (lines ++ line ∷ []) ≡ option_append (carried_texts version lines) (with_newline (carried_text version line))
unfolding carried_texts
texts_push version [] line = append_nothing (with_newline (carried_text version line)) ∙ sym (nothing_append (with_newline (carried_text version line)))
texts_push version (first ∷ lines) line =
    ap (option_append (with_newline (carried_text version first))) (texts_push version lines line)
    ∙ sym (append_three (with_newline (carried_text version first)) (carried_texts version lines) (with_newline (carried_text version line)))

-- before the first line
pub none_before : (version : Version) {text : List ℕ} → option_append (carried_texts version []) (Some text) ≡ Some text
unfolding carried_texts
none_before version = refl

-- one line more was read
pub one_more : (version : Version) (lines : List CarriedLine) (line : CarriedLine) (rest more text : List ℕ) → option_append (carried_texts version lines) (Some rest) ≡ Some text → BeginsWith version line more rest
    → option_append (carried_texts version (lines ++ line ∷ [])) (Some more) ≡ Some text
one_more version lines line rest more text e f =
    ap (λ (t : Option (List ℕ)). option_append t (Some more)) (texts_push version lines line)
    ∙ append_three (carried_texts version lines) (with_newline (carried_text version line)) (Some more)
    ∙ ap (option_append (carried_texts version lines)) f
    ∙ e

-- the first of several lines
pub first_there : (version : Version) (line : CarriedLine) (lines : List CarriedLine) (rest text : List ℕ) → option_append (carried_texts version (line ∷ lines)) (Some rest) ≡ Some text
    → (more : List ℕ) × BeginsWith version line more text × (option_append (carried_texts version lines) (Some rest) ≡ Some more)
unfolding carried_texts
first_there version line lines rest text e =
    let there : option_append (with_newline (carried_text version line)) (option_append (carried_texts version lines) (Some rest)) ≡ Some text = sym (append_three (with_newline (carried_text version line)) (carried_texts version lines) (Some rest)) ∙ e in
    let parts = parts_of (with_newline (carried_text version line)) (option_append (carried_texts version lines) (Some rest)) text there in
    (parts.1, ap (option_append (with_newline (carried_text version line))) (sym parts.3) ∙ there, parts.3)

pub none_there : (version : Version) (rest text : List ℕ) → option_append (carried_texts version []) (Some rest) ≡ Some text → rest ≡ text
unfolding carried_texts
none_there version rest text e = let is : Some rest ≡ Some text = e in cc

-- A list of lines after which none stands goes on from any other list of lines with which the text begins.
pub record GoesOn (version : Version) (lines others : List CarriedLine) (rest after : List ℕ) : Type 0 where
  pub more : List CarriedLine
  pub is : others ≡ lines ++ more
  pub left : option_append (carried_texts version more) (Some after) ≡ Some rest

pub goes_on : (version : Version) (lines others : List CarriedLine) (rest after text : List ℕ) → option_append (carried_texts version lines) (Some rest) ≡ Some text
    → option_append (carried_texts version others) (Some after) ≡ Some text → HasNoCarried version after → GoesOn version lines others rest after
goes_on version [] others rest after text e f none = record { more = others; is = refl; left = f ∙ ap Some (sym (none_there version rest text e)) }
goes_on version (line ∷ lines) [] rest after text e f none =
    let there = first_there version line lines rest text e in
    absurd (none line there.0 (there.1 ∙ ap Some (sym (none_there version after text f))))
goes_on version (line ∷ lines) (other ∷ others) rest after text e f none =
    let a = first_there version line lines rest text e in
    let b = first_there version other others after text f in
    let same = same_line version line other a.0 b.0 text a.1 b.1 in
    let its = goes_on version lines others rest after a.0 a.2 (b.2 ∙ ap Some (sym same.rest_is)) none in
    record { more = its.more; is = ap (λ (x : CarriedLine). x ∷ others) (sym same.line_is) ∙ ap (λ (xs : List CarriedLine). line ∷ xs) its.is; left = its.left }

-- the two lists are one, and so is what stands after them
pub record AreOne (lines others : List CarriedLine) (rest after : List ℕ) : Type 0 where
  pub lines_are : others ≡ lines
  pub rest_is : rest ≡ after

left_over : (version : Version) (lines others more : List CarriedLine) (rest after : List ℕ) → HasNoCarried version rest → others ≡ lines ++ more → option_append (carried_texts version more) (Some after) ≡ Some rest → AreOne lines others rest after
left_over version lines others [] rest after no_more is left = record { lines_are = is ∙ append-nil lines; rest_is = sym (none_there version after rest left) }
left_over version lines others (line ∷ more) rest after no_more is left = let there = first_there version line more after rest left in absurd (no_more line there.0 there.1)

pub all_there : (version : Version) (lines others : List CarriedLine) (rest after text : List ℕ) → option_append (carried_texts version lines) (Some rest) ≡ Some text → HasNoCarried version rest
    → option_append (carried_texts version others) (Some after) ≡ Some text → HasNoCarried version after → AreOne lines others rest after
all_there version lines others rest after text e no_more f none =
    let g = goes_on version lines others rest after text e f none in
    left_over version lines others g.more rest after no_more g.is g.left

-- ---- what is read of one line

pub whatever : {T P : Type 0} (found : Option T) → P → IfNone found P
whatever None p = p
whatever (Some it) p = tt

pub no_feed : (version : Version) (text : List ℕ) → HasNoFeed text → HasNoCarried version text
no_feed version text none line more e = let a = begins version line more text e in none a.told more (is_one version line a.told a.is) a.first.whole

pub none_read : (version : Version) (text line rest : List ℕ) → IsFirstLine text line rest → Reads (carried_text version) line None → HasNoCarried version text
none_read version text line rest first reads other more e =
    let there = in_front text line rest first (carried_text version other) (Some more) (is_one version other) e in
    let its = reads.back other there.0 in
    absurd cc

-- ---- the front of a continued trace

pub front_first : (version : Version) → front_text version [] ≡ Some (continued_header version)
unfolding carried_texts
front_first version = ap Some (append-nil (continued_header version))

pub front_push : (version : Version) (lines : List CarriedLine) (line : CarriedLine) (before text : List ℕ) → front_text version lines ≡ Some before → with_newline (carried_text version line) ≡ Some text → front_text version (lines ++ line ∷ []) ≡ Some (before ++ text)
front_push version lines line before text so is =
    ap (option_append (Some (continued_header version))) (texts_push version lines line)
    ∙ sym (append_three (Some (continued_header version)) (carried_texts version lines) (with_newline (carried_text version line)))
    ∙ ap (λ (t : Option (List ℕ)). option_append t (with_newline (carried_text version line))) so
    ∙ ap (option_append (Some before)) is

-- why one line is not printed is why none is
pub untold_among : (version : Version) (lines : List CarriedLine) (place : ℕ) (line : CarriedLine) (error : OrMemory NoText) → place < length lines → take (place + 1) lines ≡ take place lines ++ line ∷ [] → IsUntold version line error → IsUnprinted version lines error
untold_among version lines place line OutOfMemory below is untold = tt
untold_among version lines place line (Fault fault) below is untold = record { place = place; line = line; below = below; is = is; unspelled = untold }
