-- What is decided of the codes of keys, and the texts of that.
use Rattle.std.proofs.Common.{◌≡◌, ◌∙◌, ◌<◌, ◌+◌, ◌⊎◌, ℕ, List, [], ◌∷◌, ◌++◌, Some, ap, append-nil, arith, get_or, inl, inr, length, refl, subst, sym}
use Rattle.std.specs.Prelude.{slice_get}
use Rattle.std.specs.List.{flat_map}
use Rattle.std.proofs.lemmas.Grind.{flat_map-append}
use Rattle.std.proofs.lemmas.List.{get_or_append_left, length-append}
use Rattle.std.proofs.lemmas.Option.{get_or_from_slice_get, slice_get-get_or, slice_get_within}
use Rattle.std.proofs.Math.Seq.{get_or-append_seam}
use Rattle.world_calls.specs.declared.carried_line.CarriedLine.{CarriedLine}
use Rattle.world.specs.World.{Setup}
use Rattle.show_question.specs.declared.Failure.{Failure}
use Rattle.show_decision.specs.Numbered.{AreApart, text_at}
use Rattle.show_decision.specs.Rows.{AreRowsOf, IsUsual, number_at}
use Rattle.show_decision.specs.RowTexts.{key_rows_text}
use Rattle.show_decision.specs.Table.{AddsDecided, AreDecided, AreKeyTexts, IsDecidedAs, IsKeyText, failure_of, heading_of}
use Rattle.show_decision.specs.Told.{IsTextOf}
use Rattle.show_decision.specs.declared.rows.Row.{Row}
use Rattle.show_decision.specs.declared.rows.TheConstants.{CODES}

before_or_here : (k count : ℕ) → k < count + 1 → (k < count) ⊎ (k ≡ count)
before_or_here k count below = grind arith

-- a text that has a number keeps it if others come
still_there : (texts more : List (List ℕ)) (number : ℕ) (text : List ℕ) → slice_get texts number ≡ Some text → slice_get (texts ++ more) number ≡ Some text
still_there texts more number text there =
    let within = slice_get_within texts number text there in
    let within_all : number < length (texts ++ more) = omega (arith, within, length-append texts more) in
    slice_get-get_or (texts ++ more) number text within_all
    ∙ ap Some (get_or_append_left texts more text number within ∙ get_or_from_slice_get texts number text text there)

module _ (config : Setup) (lines : List CarriedLine) (failure : Failure) (response : ℕ) where
  -- of no codes nothing is decided
  pub none_decided : (key : ℕ) (texts : List (List ℕ)) → AreDecided config lines failure response key 0 [] texts
  none_decided key texts = record { count_is = refl; each = λ code usual below. absurd (omega (arith, below)) }

  -- one code more
  pub decided_more : (key count : ℕ) (numbers : List ℕ) (texts : List (List ℕ)) (new_numbers : List ℕ) (new : List (List ℕ)) → AreDecided config lines failure response key count numbers texts
      → AddsDecided config lines (failure_of failure response key count) numbers texts new_numbers new → AreDecided config lines failure response key (count + 1) new_numbers new
  decided_more key count numbers texts new_numbers new are adds =
      let it = adds.pushed in
      let at : (code usual : ℕ) → ℕ = λ code usual. get_or (numbers ++ it.number ∷ []) code usual in
      record {
        count_is = ap length it.numbers_are ∙ length-append numbers (it.number ∷ []) ∙ ap (λ (n : ℕ). n + 1) are.count_is;
        each = λ code usual below. subst (λ (its : List ℕ). IsDecidedAs config lines (failure_of failure response key code) new (number_at its code usual)) (sym it.numbers_are) (
            elim (before_or_here code count below) [
              | inl before ↦
                  let was = are.each code usual before in
                  let same : at code usual ≡ get_or numbers code usual = get_or_append_left numbers (it.number ∷ []) usual code (omega (arith, before, are.count_is)) in (
                    was.0,
                    was.1,
                    subst (λ (number : ℕ). slice_get new number ≡ Some was.0) (sym same)
                        (subst (λ (its : List (List ℕ)). slice_get its (get_or numbers code usual) ≡ Some was.0) (sym it.is.same) (still_there texts it.is.more (get_or numbers code usual) was.0 was.2)),
                  )
              | inr here ↦
                  let same : at code usual ≡ it.number = ap (λ (k : ℕ). at k usual) (here ∙ sym are.count_is) ∙ get_or-append_seam numbers it.number [] usual in
                  (adds.text, subst (λ (k : ℕ). IsTextOf config lines (failure_of failure response key k) adds.text) (sym here) adds.is, subst (λ (number : ℕ). slice_get new number ≡ Some adds.text) (sym same) it.is.is)
            ]
            );
      }

  -- each number is that of a text
  pub numbers_within : (key : ℕ) (numbers : List ℕ) (texts : List (List ℕ)) → AreDecided config lines failure response key CODES numbers texts → (code : ℕ) → code < length numbers → get_or numbers code 0 < length texts
  numbers_within key numbers texts decided code below =
      let it = decided.each code 0 (omega (arith, below, decided.count_is)) in
      slice_get_within texts (get_or numbers code 0) it.0 it.2

  -- the rows of a key are those of its decisions
  pub key_so : (key usual : ℕ) (numbers : List ℕ) (texts : List (List ℕ)) (rows : List Row) → AreDecided config lines failure response key CODES numbers texts → AreApart texts → AreRowsOf numbers usual (length numbers) rows → IsUsual numbers usual
      → IsKeyText config lines failure response key (key_rows_text (heading_of failure response key) texts usual rows)
  key_so key usual numbers texts rows decided apart are most = record {
    numbers = numbers;
    decided = decided;
    most = most;
    texts = texts;
    usual = usual;
    rows = rows;
    apart = apart;
    are = subst (λ (below : ℕ). AreRowsOf numbers usual below rows) decided.count_is are;
    text_is = refl;
  }

  -- the rows of no keys
  pub no_keys : AreKeyTexts config lines failure response 0 []
  no_keys = record { keys = []; count_is = refl; each = λ key below. absurd (omega (arith, below)); text_is = refl }

  -- those of one key more
  pub keys_more : (count : ℕ) (before rows : List ℕ) → AreKeyTexts config lines failure response count before → IsKeyText config lines failure response count rows
      → AreKeyTexts config lines failure response (count + 1) (before ++ rows)
  keys_more count before rows are is = record {
    keys = are.keys ++ rows ∷ [];
    count_is = length-append are.keys (rows ∷ []) ∙ ap (λ (n : ℕ). n + 1) are.count_is;
    each = λ key below. elim (before_or_here key count below) [
      | inl earlier ↦
          subst (IsKeyText config lines failure response key) (sym (get_or_append_left are.keys (rows ∷ []) [] key (omega (arith, earlier, are.count_is)))) (are.each key earlier)
      | inr here ↦
          subst (λ (k : ℕ). IsKeyText config lines failure response k (text_at (are.keys ++ rows ∷ []) k)) (sym here)
          (subst (IsKeyText config lines failure response count) (sym (ap (λ (k : ℕ). text_at (are.keys ++ rows ∷ []) k) (sym are.count_is) ∙ get_or-append_seam are.keys rows [] [])) is)
    ];
    text_is = ap (λ (t : List ℕ). t ++ rows) are.text_is ∙ sym (flat_map-append (λ (t : List ℕ). t) are.keys (rows ∷ []) ∙ ap (λ (t : List ℕ). flat_map (λ (u : List ℕ). u) are.keys ++ t) (append-nil rows));
  }
