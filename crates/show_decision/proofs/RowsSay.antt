-- What rows say once one is added.
use Rattle.std.proofs.Common.{◌≡◌, ◌≢◌, ◌∙◌, ◌<◌, ◌≤◌, ◌+◌, ◌*◌, ◌/◌, ◌%◌, ◌⊎◌, ℕ, List, [], ◌∷◌, ◌++◌, arith, inl, inr, refl, subst, sym}
use Rattle.show_decision.specs.Rows.{AddsCode, AreRowsOf, Covers, GoesOn, Rise, Says, first_code, last_code, next_code, number_at}
use Rattle.show_decision.specs.declared.rows.Row.{Row}

say_before : (xs ys : List Row) (k d : ℕ) → Says xs k d → Says (xs ++ ys) k d
say_before [] ys k d says = absurd says
say_before (x ∷ xs) ys k d (inl it) = inl it
say_before (x ∷ xs) ys k d (inr it) = inr (say_before xs ys k d it)

say_last : (xs : List Row) (row : Row) (k d : ℕ) → Covers row k → row.decision ≡ d → Says (xs ++ row ∷ []) k d
say_last [] row k d covers is = inl (covers, is)
say_last (x ∷ xs) row k d covers is = inr (say_last xs row k d covers is)

-- what they say, one that is before or the last one says
say_cases : (xs : List Row) (row : Row) (k d : ℕ) → Says (xs ++ row ∷ []) k d → Says xs k d ⊎ (Covers row k × (row.decision ≡ d))
say_cases [] row k d (inl it) = inr it
say_cases [] row k d (inr it) = absurd it
say_cases (x ∷ xs) row k d (inl it) = inl (inl it)
say_cases (x ∷ xs) row k d (inr it) = elim (say_cases xs row k d it) [ inl before ↦ inl (inr before) | inr last ↦ inr last ]

abbrev one_row : (code decision : ℕ) → Row
one_row code decision = record { asc = code / 256; first = code % 256; last = code % 256; decision = decision }

-- a code that has the ASC and the ASCQ of the other one is that one
same_code : (code k : ℕ) → k / 256 ≡ code / 256 → code % 256 ≤ k % 256 → k % 256 ≤ code % 256 → k ≡ code
same_code code k asc least most = omega arith

-- what comes after rows, if one more comes after them
next_of_more : (rows : List Row) (row : Row) (after : ℕ) → next_code (rows ++ row ∷ []) after ≡ next_code rows (first_code row)
next_of_more [] row after = refl
next_of_more (x ∷ rows) row after = refl

next_later : (rows : List Row) (last code after : ℕ) → last < next_code rows code → code ≤ after → last < next_code rows after
next_later [] last code after before later = omega (arith, before, later)
next_later (x ∷ rows) last code after before later = before

-- rows that end below a code end below a later one
rise_later : (rows : List Row) (code after : ℕ) → Rise rows code → code ≤ after → Rise rows after
rise_later [] code after rise later = tt
rise_later (x ∷ rows) code after rise later = (rise.0, next_later rows (last_code x) code after rise.1 later, rise_later rows code after rise.2 later)

-- one row more after the others
rise_more : (rows : List Row) (row : Row) (after : ℕ) → Rise rows (first_code row) → row.first ≤ row.last → last_code row < after → Rise (rows ++ row ∷ []) after
rise_more [] row after rise some before = (some, before, tt)
rise_more (x ∷ rows) row after rise some before =
    (rise.0, subst (λ (next : ℕ). last_code x < next) (sym (next_of_more rows row after)) rise.1, rise_more rows row after rise.2 some before)

-- the rows before the last one
rise_front : (rows : List Row) (row : Row) (after : ℕ) → Rise (rows ++ row ∷ []) after → Rise rows (first_code row)
rise_front [] row after rise = tt
rise_front (x ∷ rows) row after rise = (rise.0, subst (λ (next : ℕ). last_code x < next) (next_of_more rows row after) rise.1, rise_front rows row after rise.2)

code_is : (code : ℕ) → code / 256 * 256 + code % 256 ≡ code
code_is code = omega arith

-- a row of the one code comes after the others
pub adds_row : (rows : List Row) (code decision : ℕ) → AddsCode rows code decision (rows ++ one_row code decision ∷ [])
adds_row rows code decision = record {
  added = say_last rows (one_row code decision) code decision (refl, omega arith, omega arith) refl;
  kept = λ k d says. say_before rows (one_row code decision ∷ []) k d says;
  no_more = λ k d says. elim (say_cases rows (one_row code decision) k d says) [
    | inl before ↦ inl before
    | inr it ↦ inr (same_code code k it.0.0 it.0.1 it.0.2, sym it.1)
  ];
  rise = λ rise. rise_more rows (one_row code decision) (code + 1) (subst (Rise rows) (sym (code_is code)) rise) (omega arith) (omega (arith, code_is code));
}

at_most_or_next : (k last next : ℕ) → k ≤ next → last + 1 ≡ next → (k ≤ last) ⊎ (k ≡ next)
at_most_or_next k last next below is = grind arith

last_or_new : (rows : List Row) (row : Row) (code decision k d : ℕ) → GoesOn row code decision → Covers (record row { last = code % 256 }) k → row.decision ≡ d
    → Says (rows ++ row ∷ []) k d ⊎ ((k ≡ code) × (d ≡ decision))
last_or_new rows row code decision k d on covers is = elim (at_most_or_next (k % 256) row.last (code % 256) covers.2 on.next) [
  | inl within ↦ inl (say_last rows row k d (covers.0, covers.1, within) is)
  | inr next ↦ inr (omega (arith, covers.0, on.asc, next), sym is ∙ on.same)
]

-- the last row has one code more
pub adds_to_last : (rows : List Row) (row : Row) (code decision : ℕ) → GoesOn row code decision → AddsCode (rows ++ row ∷ []) code decision (rows ++ record row { last = code % 256 } ∷ [])
adds_to_last rows row code decision on =
    let grown : Row = record row { last = code % 256 } in
    record {
      added = say_last rows grown code decision (sym on.asc, omega (arith, on.some, on.next), omega arith) on.same;
      kept = λ k d says. elim (say_cases rows row k d says) [
        | inl before ↦ say_before rows (grown ∷ []) k d before
        | inr it ↦ say_last rows grown k d (it.0.0, it.0.1, omega (arith, it.0.2, on.next)) it.1
      ];
      no_more = λ k d says. elim (say_cases rows grown k d says) [
        | inl before ↦ inl (say_before rows (row ∷ []) k d before)
        | inr it ↦ last_or_new rows row code decision k d on it.0 it.1
      ];
      rise = λ rise. rise_more rows grown (code + 1) (rise_front rows row code rise) (omega (arith, on.some, on.next)) (omega (arith, on.asc, code_is code));
    }

before_or_here : (k code : ℕ) → k < code + 1 → (k < code) ⊎ (k ≡ code)
before_or_here k code below = grind arith

-- one code more of which another thing was decided
pub more_rows : (decisions : List ℕ) (usual code : ℕ) (old new : List Row) → AreRowsOf decisions usual code old → AddsCode old code (number_at decisions code usual) new
    → number_at decisions code usual ≢ usual → AreRowsOf decisions usual (code + 1) new
more_rows decisions usual code old new are adds is_other = record {
  other = λ k d says. elim (adds.no_more k d says) [
    | inl before ↦ are.other k d before
    | inr it ↦ subst (λ (its : ℕ). its ≢ usual) (sym it.1) is_other
  ];
  rise = adds.rise are.rise;
  so = λ k d says. elim (adds.no_more k d says) [
    | inl before ↦ (omega (arith, (are.so k d before).0), (are.so k d before).1)
    | inr it ↦ (omega (arith, it.0), subst (λ (at : ℕ). number_at decisions at usual ≡ d) (sym it.0) (sym it.1))
  ];
  all = λ k below other. elim (before_or_here k code below) [
    | inl before ↦ adds.kept k (number_at decisions k usual) (are.all k before other)
    | inr here ↦ subst (λ (at : ℕ). Says new at (number_at decisions at usual)) (sym here) adds.added
  ];
}

-- one code more of which the usual thing was decided
pub same_rows : (decisions : List ℕ) (usual code : ℕ) (rows : List Row) → AreRowsOf decisions usual code rows → number_at decisions code usual ≡ usual → AreRowsOf decisions usual (code + 1) rows
same_rows decisions usual code rows are is = record {
  other = are.other;
  rise = rise_later rows code (code + 1) are.rise (omega arith);
  so = λ k d says. (omega (arith, (are.so k d says).0), (are.so k d says).1);
  all = λ k below other. elim (before_or_here k code below) [
    | inl before ↦ are.all k before other
    | inr here ↦ absurd (other (subst (λ (at : ℕ). number_at decisions at usual ≡ usual) (sym here) is))
  ];
}

-- of no codes none
pub no_rows : (decisions : List ℕ) (usual : ℕ) → AreRowsOf decisions usual 0 []
no_rows decisions usual = record {
  other = λ k d says. absurd says;
  rise = tt;
  so = λ k d says. absurd says;
  all = λ k below other. absurd (omega (arith, below));
}
