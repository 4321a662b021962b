-- Bytes that come one by one: whether they end with a last line.
use Rattle.std.proofs.Common.{◌≡◌, ◌≢◌, ◌∙◌, inl, inr, ◌<◌, ◌≤◌, ◌+◌, ◌==◌, ◌&&◌, not, cond, ℕ, Bool, true, false, Option, Some, None, Ok, List, [], ◌∷◌, ◌++◌, length, refl, sym, ap, subst, append_assoc, append-nil, arith, length-append}
use Rattle.std.specs.List.{list_all}
use Rattle.std.specs.Io.KnownBytes.{Consumes, IsAtEnd}
use Rattle.std.proofs.lemmas.Bool.{eqb-false, eqb-true, ne_eqb, not_from_false}
use Rattle.std.proofs.lemmas.List.Folds.{list_all-append}
use Rattle.std.proofs.KnownBytes.{Consumes-nil, Consumes-trans}
use Rattle.trace.proofs.Shown.{lines_are_short}
use Rattle.trace.specs.declared.laws.TheConstants.{LONGEST_LINE}
use Rattle.host_recovery.specs.LinesRead.{IsOneLine, is_in_line}
use Rattle.host_recovery.specs.declared.recovering.TheConstants.{MOST_WHOLE}
use Rattle.host_recovery.proofs.Cutting.{shown_line}
use Rattle.host_live.specs.LinesCome.{EndsALine}
use Rattle.host_journal.specs.Texts.{AreTooMany, EndsInSums, IsKept, IsLastLine, IsScanned, Says, Tells}
use Rattle.host_journal.proofs.Numbers.{both, both_so}

-- ---- the line before the last line feed

-- `now` came since the last line feed, and `before` is the line before that
abbrev whole_line : (now before : List ℕ) → List ℕ → List ℕ
whole_line now before [] = before
whole_line now before (x ∷ xs) = cond (x == 10) (whole_line [] now xs) (whole_line (now ++ x ∷ []) before xs)

not_feed : (byte : ℕ) → is_in_line byte ≡ true → (byte == 10) ≡ false
not_feed byte is = by (byte == 10) is
  where
    by : (b : Bool) → not b ≡ true → b ≡ false
    by true e = absurd (let bad : false ≡ true = e in cc)
    by false e = refl

in_line : (line rest now before : List ℕ) → IsOneLine line → whole_line now before (line ++ rest) ≡ whole_line (now ++ line) before rest
in_line [] rest now before one = ap (λ (t : List ℕ). whole_line t before rest) (sym (append-nil now))
in_line (x ∷ line) rest now before one =
    let parts = both (is_in_line x) (list_all is_in_line line) one in
    ap (λ (b : Bool). cond b (whole_line [] now (line ++ rest)) (whole_line (now ++ x ∷ []) before (line ++ rest))) (not_feed x parts.0)
    ∙ (in_line line rest (now ++ x ∷ []) before parts.1 ∙ ap (λ (t : List ℕ). whole_line t before rest) (append_assoc now (x ∷ []) line))

after_one : (b : Bool) (x : ℕ) (front rest now before : List ℕ) → (x == 10) ≡ b → ((now before : List ℕ) → (last : List ℕ) × (whole_line now before (front ++ 10 ∷ rest) ≡ whole_line [] last rest))
    → (last : List ℕ) × (whole_line now before (x ∷ (front ++ 10 ∷ rest)) ≡ whole_line [] last rest)
after_one true x front rest now before is after =
    let next = after [] now in
    (next.0, ap (λ (b : Bool). cond b (whole_line [] now (front ++ 10 ∷ rest)) (whole_line (now ++ x ∷ []) before (front ++ 10 ∷ rest))) is ∙ next.1)
after_one false x front rest now before is after =
    let next = after (now ++ x ∷ []) before in
    (next.0, ap (λ (b : Bool). cond b (whole_line [] now (front ++ 10 ∷ rest)) (whole_line (now ++ x ∷ []) before (front ++ 10 ∷ rest))) is ∙ next.1)

after_front : (front rest now before : List ℕ) → (last : List ℕ) × (whole_line now before (front ++ 10 ∷ rest) ≡ whole_line [] last rest)
after_front [] rest now before = (now, refl)
after_front (x ∷ front) rest now before = after_one (x == 10) x front rest now before refl (after_front front rest)

is_whole : (line before : List ℕ) → IsOneLine line → whole_line [] before (line ++ 10 ∷ []) ≡ line
is_whole line before one = in_line line (10 ∷ []) [] before one

ends_with : (front line : List ℕ) → EndsALine front → IsOneLine line → whole_line [] [] (front ++ (line ++ 10 ∷ [])) ≡ line
ends_with front line at_line one =
    elim at_line [
      | inl none ↦ ap (λ (t : List ℕ). whole_line [] [] (t ++ (line ++ 10 ∷ []))) none ∙ is_whole line [] one
      | inr feed ↦
          let after = after_front feed.0 (line ++ 10 ∷ []) [] [] in
          ap (λ (t : List ℕ). whole_line [] [] (t ++ (line ++ 10 ∷ []))) feed.1 ∙ (ap (whole_line [] []) (append_assoc feed.0 (10 ∷ []) (line ++ 10 ∷ [])) ∙ (after.1 ∙ is_whole line after.0 one))
    ]

same_line : (front line front' line' : List ℕ) → front ++ (line ++ 10 ∷ []) ≡ front' ++ (line' ++ 10 ∷ []) → EndsALine front → EndsALine front' → IsOneLine line → IsOneLine line' → line ≡ line'
same_line front line front' line' is at_line at_line' one one' = sym (ends_with front line at_line one) ∙ (ap (whole_line [] []) is ∙ ends_with front' line' at_line' one')

-- ---- whether the last byte is a line feed

abbrev fed : Bool → List ℕ → Bool
fed was [] = was
fed was (x ∷ xs) = fed (x == 10) xs

fed_both : (was : Bool) (first second : List ℕ) → fed was (first ++ second) ≡ fed (fed was first) second
fed_both was [] second = refl
fed_both was (x ∷ first) second = fed_both (x == 10) first second

not_fed : (line : List ℕ) → IsOneLine line → fed false line ≡ false
not_fed [] one = refl
not_fed (x ∷ line) one =
    let parts = both (is_in_line x) (list_all is_in_line line) one in
    ap (λ (b : Bool). fed b line) (not_feed x parts.0) ∙ not_fed line parts.1

ends_fed : (front line : List ℕ) → fed false (front ++ (line ++ 10 ∷ [])) ≡ true
ends_fed front line = fed_both false front (line ++ 10 ∷ []) ∙ fed_both (fed false front) line (10 ∷ [])

no_line_left : (bytes whole line : List ℕ) → EndsInSums bytes → bytes ≡ whole ++ line → IsOneLine line → line ≡ []
no_line_left bytes whole [] ends is one = refl
no_line_left bytes whole (x ∷ line) ends is one =
    let parts = both (is_in_line x) (list_all is_in_line line) one in
    let no : fed false (whole ++ x ∷ line) ≡ false = fed_both false whole (x ∷ line) ∙ (ap (λ (b : Bool). fed b line) (not_feed x parts.0) ∙ not_fed line parts.1) in
    let yes : fed false (whole ++ x ∷ line) ≡ true = ap (fed false) (sym is ∙ ends.is) ∙ ends_fed ends.front ends.line in
    absurd (let bad : false ≡ true = sym no ∙ yes in cc)

-- ---- byte by byte

last_one_line : (line : List ℕ) → IsLastLine line → IsOneLine line
last_one_line line last = shown_line line (lines_are_short.1 last.0 line last.1).shown

last_few : (line : List ℕ) → IsLastLine line → length line ≤ LONGEST_LINE
last_few line last = (lines_are_short.1 last.0 line last.1).few

no_sums : EndsInSums [] → ⊥
no_sums ends =
    let none : 0 ≡ length (ends.front ++ (ends.line ++ 10 ∷ [])) = ap (length {A = ℕ}) ends.is in
    omega (arith, none, length-append ends.front (ends.line ++ 10 ∷ []), length-append ends.line (10 ∷ []))

pub scanned_none : IsScanned [] [] false false
scanned_none = record { whole = []; line = []; is = refl; at_line = inl refl; one_line = refl; is_kept = refl; ended = no_sums }

-- the last line of bytes that end so, and the line that came
same_last : (before kept : List ℕ) (is_long is_end : Bool) (scanned : IsScanned before kept is_long is_end) (ends : EndsInSums (before ++ 10 ∷ [])) → ends.line ≡ scanned.line
same_last before kept is_long is_end scanned ends =
    let ours : before ++ 10 ∷ [] ≡ scanned.whole ++ (scanned.line ++ 10 ∷ []) = ap (λ (t : List ℕ). t ++ 10 ∷ []) scanned.is ∙ append_assoc scanned.whole scanned.line (10 ∷ []) in
    same_line ends.front ends.line scanned.whole scanned.line (sym ends.is ∙ ours) ends.at_line scanned.at_line (last_one_line ends.line ends.last) scanned.one_line

told : (before kept : List ℕ) (is_long is_end said : Bool) → IsScanned before kept is_long is_end → (is_long ≡ true → said ≡ false) → (is_long ≡ false → Tells IsLastLine kept said) → Tells EndsInSums (before ++ 10 ∷ []) said
told before kept true is_end said scanned long last =
    subst (λ (b : Bool). Tells EndsInSums (before ++ 10 ∷ []) b) (sym (long refl)) (λ ends. omega (arith, ap (length {A = ℕ}) (same_last before kept true is_end scanned ends), last_few ends.line ends.last, scanned.is_kept.0))
told before kept false is_end true scanned long last = record {
  front = scanned.whole;
  line = scanned.line;
  is = ap (λ (t : List ℕ). t ++ 10 ∷ []) scanned.is ∙ append_assoc scanned.whole scanned.line (10 ∷ []);
  at_line = scanned.at_line;
  last = subst IsLastLine scanned.is_kept (last refl);
}
told before kept false is_end false scanned long last = λ ends. last refl (subst IsLastLine (same_last before kept false is_end scanned ends ∙ sym scanned.is_kept) ends.last)

pub scanned_line : (before kept : List ℕ) (is_long is_end said : Bool) → IsScanned before kept is_long is_end → (is_long ≡ true → said ≡ false) → (is_long ≡ false → Tells IsLastLine kept said) → IsScanned (before ++ 10 ∷ []) [] false said
scanned_line before kept is_long is_end said scanned long last = record {
  whole = before ++ 10 ∷ [];
  line = [];
  is = sym (append-nil (before ++ 10 ∷ []));
  at_line = inr (before, refl);
  one_line = refl;
  is_kept = refl;
  ended = told before kept is_long is_end said scanned long last;
}

one_more : (line : List ℕ) (byte : ℕ) → IsOneLine line → byte ≢ 10 → IsOneLine (line ++ byte ∷ [])
one_more line byte one other =
    list_all-append is_in_line line (byte ∷ []) ∙ both_so (list_all is_in_line line) (list_all is_in_line (byte ∷ [])) one (both_so (is_in_line byte) true (not_from_false (byte == 10) (ne_eqb byte 10 other)) refl)

kept_more : (is_long : Bool) (kept line : List ℕ) (byte : ℕ) → length kept < LONGEST_LINE → IsKept is_long kept line → IsKept is_long (kept ++ byte ∷ []) (line ++ byte ∷ [])
kept_more true kept line byte few is = absurd (omega (arith, is.1, few))
kept_more false kept line byte few is = ap (λ (t : List ℕ). t ++ byte ∷ []) is

kept_long : (is_long : Bool) (kept line : List ℕ) (byte : ℕ) → LONGEST_LINE ≤ length kept → IsKept is_long kept line → IsKept true kept (line ++ byte ∷ [])
kept_long true kept line byte many is = (omega (arith, length-append line (byte ∷ []), is.0), many)
kept_long false kept line byte many is = (omega (arith, length-append line (byte ∷ []), ap (length {A = ℕ}) is, many), many)

pub scanned_byte : (before kept : List ℕ) (is_long is_end : Bool) (byte : ℕ) → byte ≢ 10 → length kept < LONGEST_LINE → IsScanned before kept is_long is_end → IsScanned (before ++ byte ∷ []) (kept ++ byte ∷ []) is_long is_end
scanned_byte before kept is_long is_end byte other few scanned = record {
  whole = scanned.whole;
  line = scanned.line ++ byte ∷ [];
  is = ap (λ (t : List ℕ). t ++ byte ∷ []) scanned.is ∙ append_assoc scanned.whole scanned.line (byte ∷ []);
  at_line = scanned.at_line;
  one_line = one_more scanned.line byte scanned.one_line other;
  is_kept = kept_more is_long kept scanned.line byte few scanned.is_kept;
  ended = scanned.ended;
}

pub scanned_long : (before kept : List ℕ) (is_long is_end : Bool) (byte : ℕ) → byte ≢ 10 → LONGEST_LINE ≤ length kept → IsScanned before kept is_long is_end → IsScanned (before ++ byte ∷ []) kept true is_end
scanned_long before kept is_long is_end byte other many scanned = record {
  whole = scanned.whole;
  line = scanned.line ++ byte ∷ [];
  is = ap (λ (t : List ℕ). t ++ byte ∷ []) scanned.is ∙ append_assoc scanned.whole scanned.line (byte ∷ []);
  at_line = scanned.at_line;
  one_line = one_more scanned.line byte scanned.one_line other;
  is_kept = kept_long is_long kept scanned.line byte many scanned.is_kept;
  ended = scanned.ended;
}

-- ---- at the end

nothing_kept : (is_long : Bool) (kept line : List ℕ) → length kept ≡ 0 → IsKept is_long kept line → line ≡ []
nothing_kept true kept line none is = absurd (omega (arith, is.1, none))
nothing_kept false kept [] none is = refl
nothing_kept false kept (x ∷ line) none is = absurd (omega (arith, ap (length {A = ℕ}) is, none))

nothing_came : (is_long : Bool) (kept line : List ℕ) → line ≡ [] → IsKept is_long kept line → length kept ≡ 0
nothing_came true kept line none is = absurd (omega (arith, ap (length {A = ℕ}) none, is.0))
nothing_came false kept line none is = ap (length {A = ℕ}) (is ∙ none)

whole_so : (bytes whole line : List ℕ) → bytes ≡ whole ++ line → line ≡ [] → bytes ≡ whole
whole_so bytes whole line is none = is ∙ (ap (λ (t : List ℕ). whole ++ t) none ∙ append-nil whole)

pub whole_told : (bytes kept : List ℕ) (is_long is_end said : Bool) → IsScanned bytes kept is_long is_end → said ≡ (is_end && (length kept == 0)) → Tells EndsInSums bytes said
whole_told bytes kept is_long true true scanned is =
    let none : scanned.line ≡ [] = nothing_kept is_long kept scanned.line (eqb-true (length kept) 0 (sym is)) scanned.is_kept in
    subst EndsInSums (sym (whole_so bytes scanned.whole scanned.line scanned.is none)) scanned.ended
whole_told bytes kept is_long false true scanned is = absurd (let bad : true ≡ false = is in cc)
whole_told bytes kept is_long true false scanned is = λ ends.
    let none : length kept ≡ 0 = nothing_came is_long kept scanned.line (no_line_left bytes scanned.whole scanned.line ends scanned.is scanned.one_line) scanned.is_kept in
    eqb-false (length kept) 0 (sym is) none
whole_told bytes kept is_long false false scanned is = λ ends.
    scanned.ended (subst EndsInSums (whole_so bytes scanned.whole scanned.line scanned.is (no_line_left bytes scanned.whole scanned.line ends scanned.is scanned.one_line)) ends)

-- ---- piece by piece

-- so many bytes were read, and scanned
pub record IsFollowed (from now : Option (List ℕ)) (kept : List ℕ) (is_long is_end : Bool) (count : ℕ) : Type 0 where
  pub done : List ℕ
  pub read : Consumes from now done
  pub counted : count ≡ length done
  pub scanned : IsScanned done kept is_long is_end

pub followed_none : (from : Option (List ℕ)) (kept : List ℕ) (is_long is_end : Bool) → IsScanned [] kept is_long is_end → IsFollowed from from kept is_long is_end 0
followed_none from kept is_long is_end none = record { done = []; read = Consumes-nil from; counted = refl; scanned = none }

pub followed_more : (from between now : Option (List ℕ)) (kept later : List ℕ) (is_long is_end long_later end_later : Bool) (count more : ℕ) (piece : List ℕ) → IsFollowed from between kept is_long is_end count → Consumes between now piece
    → more ≡ length piece → ((before : List ℕ) → IsScanned before kept is_long is_end → IsScanned (before ++ piece) later long_later end_later) → IsFollowed from now later long_later end_later (count + more)
followed_more from between now kept later is_long is_end long_later end_later count more piece so given same scans = record {
  done = so.done ++ piece;
  read = Consumes-trans from between now so.done piece so.read given;
  counted = omega (arith, so.counted, same, length-append so.done piece);
  scanned = scans so.done so.scanned;
}

pub followed_end : (E : Type 0) (from between now : Option (List ℕ)) (kept : List ℕ) (is_long is_end said : Bool) (count : ℕ) → IsFollowed from between kept is_long is_end count → Consumes between now [] → IsAtEnd now
    → ((bytes : List ℕ) → IsScanned bytes kept is_long is_end → Tells EndsInSums bytes said) → Says {E = E} EndsInSums from (Ok said)
followed_end E None between now kept is_long is_end said count so given at_end tells = tt
followed_end E (Some text) None now kept is_long is_end said count so given at_end tells = absurd so.read
followed_end E (Some text) (Some left) None kept is_long is_end said count so given at_end tells = absurd given
followed_end E (Some text) (Some left) (Some after) kept is_long is_end said count so given at_end tells =
    let all : text ≡ so.done = so.read ∙ (ap (λ (t : List ℕ). so.done ++ t) (given ∙ at_end) ∙ append-nil so.done) in
    subst (λ (t : List ℕ). Tells EndsInSums t said) (sym all) (tells so.done so.scanned)

-- more than are read
pub too_many : (from now : Option (List ℕ)) (done : List ℕ) → Consumes from now done → MOST_WHOLE ≤ length done → AreTooMany from
too_many None now done read many = tt
too_many (Some text) None done read many = absurd read
too_many (Some text) (Some left) done read many = omega (arith, ap (length {A = ℕ}) read, length-append done left, many)

pub followed_too_far : (from now : Option (List ℕ)) (kept : List ℕ) (is_long is_end : Bool) (count : ℕ) → IsFollowed from now kept is_long is_end count → MOST_WHOLE ≤ count → AreTooMany from
followed_too_far from now kept is_long is_end count so many = too_many from now so.done so.read (omega (arith, so.counted, many))
