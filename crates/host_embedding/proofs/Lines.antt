-- Lines of a trace, one after the other.
use Rattle.std.proofs.Common.{◌≡◌, ◌+◌, ◌<◌, ℕ, Option, Some, List, [], ◌∷◌, ◌++◌, ◌≤◌, ◌-◌, None, length, drop, get_or, refl, sym, ap, ◌∙◌, append-nil, append_assoc, arith}
use Rattle.std.proofs.lemmas.List.Edits.{between_none, between_more}
use Rattle.std.proofs.lemmas.List.{drop-drop}
use Rattle.std.proofs.lemmas.Option.{slice_get_read}
use Rattle.std.specs.List.{between, slice_get}
use Rattle.trace_lines.proofs.Tests.{same_text}
use Rattle.std.specs.Fmt.{option_append, with_newline}
use Rattle.trace.proofs.Printing.{append_three, append_nothing, nothing_append}
use Rattle.host_embedding.specs.Lines.{lines_of, AddsLines, FindsNoRoom}

pub adds_none : {T : Type 0} (text : T → Option (List ℕ)) (items : List T) (put : List ℕ) (from : ℕ) → AddsLines text items put from put from
adds_none text items put from = record {
  lines = [];
  lines_are = ap (lines_of text) (between_none items from);
  text_is = sym (append-nil put);
  onwards = omega arith;
}

push_line : {T : Type 0} (text : T → Option (List ℕ)) (items : List T) (item : T) → lines_of text (items ++ item ∷ []) ≡ option_append (lines_of text items) (with_newline (text item))
push_line text [] item = append_nothing (with_newline (text item)) ∙ sym (nothing_append (with_newline (text item)))
push_line text (first ∷ items) item =
    ap (option_append (with_newline (text first))) (push_line text items item)
    ∙ sym (append_three (with_newline (text first)) (lines_of text items) (with_newline (text item)))

-- the line of the item that comes next
pub adds_one : {T : Type 0} (text : T → Option (List ℕ)) (items : List T) (before : List ℕ) (from : ℕ) (put : List ℕ) (next : ℕ) (item : T) (line more : List ℕ)
    → AddsLines text items before from put next → next < length items → item ≡ get_or items next item
    → Some line ≡ with_newline (text item) → more ≡ put ++ line → AddsLines text items before from more (next + 1)
adds_one {T} text items before from put next item line more adds within is line_is more_is =
    let longer : between from (next + 1) items ≡ between from next items ++ item ∷ [] =
    between_more items from next item adds.onwards within ∙ ap (λ (it : T). between from next items ++ it ∷ []) (sym is) in
    record {
      lines = adds.lines ++ line;
      lines_are = ap (lines_of text) longer ∙ push_line text (between from next items) item
          ∙ ap (λ (it : Option (List ℕ)). option_append it (with_newline (text item))) adds.lines_are
          ∙ ap (option_append (Some adds.lines)) (sym line_is);
      text_is = more_is ∙ ap (λ (it : List ℕ). it ++ line) adds.text_is ∙ append_assoc before adds.lines line;
      onwards = omega (arith, adds.onwards);
    }

-- a text that is put where nothing stood
pub put_alone : (text : Option (List ℕ)) (new : List ℕ) → option_append (Some []) text ≡ Some new → text ≡ Some new
put_alone text new put = sym (nothing_append text) ∙ put

-- ---- what stands after the lines

-- two places that are the same from one on are so from a later one on
pub same_behind : (a b c : List ℕ) (n m : ℕ) → n ≤ m → drop n b ≡ drop n a → drop m c ≡ drop m b → drop m c ≡ drop m a
same_behind a b c n m onward first second =
    let more : n + (m - n) ≡ m = omega (arith, onward) in
    let step : (x : List ℕ) → drop m x ≡ drop (m - n) (drop n x) = λ x. ap (λ (k : ℕ). drop k x) (sym more) ∙ sym (drop-drop (m - n) n x) in
    second ∙ step b ∙ ap (drop (m - n)) first ∙ sym (step a)

-- ---- a line that finds room

pub finds_some : {T : Type 0} (text : T → Option (List ℕ)) (items : List T) (number : ℕ) (place : List ℕ) (written : ℕ) (item : T) (line : List ℕ) → item ≡ get_or items number item → number < length items
    → Some line ≡ with_newline (text item) → written + length line ≤ length place → FindsNoRoom text items number place written → ⊥
finds_some text items number place written item line is within line_is room none =
    let found = none item (slice_get_read items (length items) number item refl within is) in
    let same : line ≡ found.0 = same_text line found.0 (line_is ∙ found.1) in
    let short = found.2 in
    omega (arith, short, room, ap length same)

no_line : (line : List ℕ) → with_newline None ≡ Some line → ⊥
no_line line e = absurd cc

pub finds_none : {T : Type 0} (text : T → Option (List ℕ)) (items : List T) (number : ℕ) (place : List ℕ) (written : ℕ) (item : T) → item ≡ get_or items number item → number < length items
    → text item ≡ None → FindsNoRoom text items number place written → ⊥
finds_none text items number place written item is within none short =
    let found = short item (slice_get_read items (length items) number item refl within is) in
    no_line found.0 (ap with_newline (sym none) ∙ found.1)

pub finds_moved : {T : Type 0} (text : T → Option (List ℕ)) (items : List T) (number later written more : ℕ) (place again : List ℕ) → number ≡ later → written ≡ more → length place ≡ length again
    → FindsNoRoom text items number place written → FindsNoRoom text items later again more
finds_moved text items number later written more place again number_is written_is size none = λ item found.
    let line = none item (ap (slice_get items) number_is ∙ found) in
    let short = line.2 in
    (line.0, line.1, omega (arith, short, written_is, size))
