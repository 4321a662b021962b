-- Words that are written into tables, one after the other, and the lines of the tables.
use Rattle.std.proofs.Common.{◌≡◌, ℕ, ◌+◌, ◌<◌, List, [], ◌∷◌, ◌++◌, suc, length, map, get_or, take, refl, ap, sym, ◌∙◌, arith, inl, inr}
use Rattle.std.proofs.lemmas.Bool.{cases_lt}
use Rattle.std.proofs.lemmas.List.{append-nil, append_assoc, length-take-le, take_more}
use Rattle.std.proofs.lemmas.Option.{slice_get-get_or}
use Rattle.table_store.specs.Tables.{HasWord, with_word}
use Rattle.world_calls.specs.declared.carried_line.CarriedLine.{CarriedLine}
use Rattle.world.specs.World.{Setup}
use Rattle.engine_beginning.specs.Lines.{tables_from, words_from}
use Rattle.engine_carried.proofs.Adding.{word_there}
use Rattle.engine_carried.proofs.Beginning.{present_length}
use Rattle.show_question.specs.declared.TableWord.{TableWord}
use Rattle.host_decision.specs.Asked.{written}
use Rattle.host_decision.specs.Faults.{AreFaultless, HasPlace}

-- ---- one word after the other

written_last : (tables : List (List ℕ)) (words : List TableWord) (it : TableWord) → written tables (words ++ it ∷ []) ≡ with_word (written tables words) it.table it.index it.word
written_last tables [] it = refl
written_last tables (one ∷ words) it = written_last (with_word tables one.table one.index one.word) words it

pub written_more : (first : List (List ℕ)) (words : List TableWord) (k : ℕ) (d : TableWord) (before next : List (List ℕ)) → before ≡ written first (take k words)
    → next ≡ with_word before (get_or words k d).table (get_or words k d).index (get_or words k d).word → k < length words → next ≡ written first (take (k + 1) words)
written_more first words k d before next so put below =
    let it = get_or words k d in
    put ∙ (ap (λ (tables : List (List ℕ)). with_word tables it.table it.index it.word) so ∙ (sym (written_last first (take k words) it)
    ∙ ap (λ (front : List TableWord). written first front) (sym (take_more words k d below))))

-- ---- where they are written

-- words of which none is at fault have places
pub placed : (config : Setup) (words : List TableWord) (k : ℕ) (d : TableWord) → AreFaultless config words → k < length words → HasPlace config (get_or words k d)
placed config words k d fine below =
    let it = get_or words k d in
    elim (cases_lt it.index (get_or config.limits.table_lengths it.table 0)) [
      | inl there ↦ there
      | inr past ↦ absurd (fine k (it, slice_get-get_or words k d below, inl (λ (there : HasPlace config it). omega (arith, there, past))))
    ]

pub has_word : (config : Setup) (tables : List (List ℕ)) (it : TableWord) → map (λ (table : List ℕ). length table) tables ≡ config.limits.table_lengths → HasPlace config it → HasWord tables it.table it.index
has_word config tables it lengths place = word_there tables it.table it.index (omega (arith, place, present_length config tables it.table lengths))

-- ---- the lines of tables

tables_append : (n : ℕ) (xs : List (List ℕ)) (x : List ℕ) → tables_from n (xs ++ x ∷ []) ≡ tables_from n xs ++ words_from (n + length xs) 0 x
tables_append n [] x = append-nil (words_from n 0 x) ∙ ap (λ (t : ℕ). words_from t 0 x) (omega arith)
tables_append n (t ∷ ts) x =
    ap (λ (ls : List CarriedLine). words_from n 0 t ++ ls) (tables_append (n + 1) ts x ∙ ap (λ (j : ℕ). tables_from (n + 1) ts ++ words_from j 0 x) (omega arith))
    ∙ sym (append_assoc (words_from n 0 t) (tables_from (n + 1) ts) (words_from (n + suc (length ts)) 0 x))

pub tables_more : (tables : List (List ℕ)) (k table : ℕ) (before items next : List CarriedLine) → items ≡ before ++ tables_from 0 (take k tables) → next ≡ items ++ words_from table 0 (get_or tables table []) → table ≡ k
    → k < length tables → next ≡ before ++ tables_from 0 (take (k + 1) tables)
tables_more tables k table before items next so added is below =
    let one = get_or tables k [] in
    let at : length (take k tables) ≡ k = length-take-le k tables (omega (arith, below)) in
    let there : words_from table 0 (get_or tables table []) ≡ words_from (0 + length (take k tables)) 0 one =
    ap (λ (t : ℕ). words_from t 0 (get_or tables t [])) is ∙ ap (λ (t : ℕ). words_from t 0 one) (omega (arith, at)) in
    added ∙ (ap (λ (ls : List CarriedLine). ls ++ words_from table 0 (get_or tables table [])) so ∙ (append_assoc before (tables_from 0 (take k tables)) (words_from table 0 (get_or tables table []))
    ∙ ap (λ (ls : List CarriedLine). before ++ ls)
    (ap (λ (ls : List CarriedLine). tables_from 0 (take k tables) ++ ls) there ∙ (sym (tables_append 0 (take k tables) one) ∙ ap (λ (front : List (List ℕ)). tables_from 0 front) (sym (take_more tables k [] below))))))
