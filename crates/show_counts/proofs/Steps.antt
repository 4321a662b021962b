-- What one record more does to what is told and to what is counted.
use Rattle.std.proofs.Common.{◌≡◌, ◌+◌, ℕ, List, [], ◌∷◌, ◌++◌, Option, Some, None, take, refl, ap, sym, subst, ◌∙◌, append_assoc}
use Rattle.std.specs.BTreeMap.{BTreeMap, IsEmpty}
use Rattle.std.specs.FinMap.Entries.{find}
use Rattle.std.specs.Ordering.{nat_cmp}
use Rattle.world_calls.specs.declared.carried_line.CarriedLine.{CarriedLine}
use Rattle.world_calls.specs.declared.record.Record.{Record}
use Rattle.show_counts.specs.Told.{carried}
use Rattle.show_counts.specs.Columns.{AreCounts, and_then, at, at_both, carried_queue, ccb_of, cell_of, first_told, or_later, queue_of, queue_of_run, told_of}

pub or_later_none : (first : Option ℕ) → or_later first None ≡ first
or_later_none None = refl
or_later_none (Some it) = refl

or_later_both : (first second third : Option ℕ) → or_later first (or_later second third) ≡ or_later (or_later first second) third
or_later_both None second third = refl
or_later_both (Some it) second third = refl

pub first_push : (tells : Record → Option (ℕ × ℕ)) (number : ℕ) (records : List Record) (more : Record) → first_told tells number (records ++ more ∷ []) ≡ or_later (first_told tells number records) (told_of number (tells more))
first_push tells number [] more = or_later_none (told_of number (tells more))
first_push tells number (first ∷ records) more =
    ap (or_later (told_of number (tells first))) (first_push tells number records more)
    ∙ or_later_both (told_of number (tells first)) (first_told tells number records) (told_of number (tells more))

-- the same, where what is kept of the number and what the record tells are known
pub first_more : (tells : Record → Option (ℕ × ℕ)) (number : ℕ) (records : List Record) (more : Record) (first old new : Option ℕ) (pair : Option (ℕ × ℕ)) → new ≡ or_later old (told_of number pair) → old ≡ or_later first (first_told tells number records) → pair ≡ tells more → new ≡ or_later first (first_told tells number (records ++ more ∷ []))
first_more tells number records more first old new pair kept before told =
    kept
    ∙ (ap (λ (o : Option ℕ). or_later o (told_of number pair)) before
    ∙ (ap (λ (p : Option (ℕ × ℕ)). or_later (or_later first (first_told tells number records)) (told_of number p)) told
    ∙ (sym (or_later_both first (first_told tells number records) (told_of number (tells more)))
    ∙ ap (or_later first) (sym (first_push tells number records more)))))

-- the same of the lines that carry CCBs over
pub carried_push : (number : ℕ) (lines : List CarriedLine) (more : CarriedLine) → carried_queue number (lines ++ more ∷ []) ≡ or_later (carried_queue number lines) (told_of number (carried more))
carried_push number [] more = or_later_none (told_of number (carried more))
carried_push number (first ∷ lines) more =
    ap (or_later (told_of number (carried first))) (carried_push number lines more)
    ∙ or_later_both (told_of number (carried first)) (carried_queue number lines) (told_of number (carried more))

pub carried_more : (number : ℕ) (lines : List CarriedLine) (place : ℕ) (more : CarriedLine) (old new : Option ℕ) (pair : Option (ℕ × ℕ)) → take (place + 1) lines ≡ take place lines ++ more ∷ [] → new ≡ or_later old (told_of number pair) → old ≡ carried_queue number (take place lines) → pair ≡ carried more → new ≡ carried_queue number (take (place + 1) lines)
carried_more number lines place more old new pair taken kept before told =
    kept
    ∙ (ap (λ (o : Option ℕ). or_later o (told_of number pair)) before
    ∙ (ap (λ (p : Option (ℕ × ℕ)). or_later (carried_queue number (take place lines)) (told_of number p)) told
    ∙ (sym (carried_push number (take place lines) more)
    ∙ ap (carried_queue number) (sym taken))))

-- an empty table has nothing at a number
pub empty_at : (table : BTreeMap ℕ ℕ) → IsEmpty table → (number : ℕ) → at table number ≡ None
unfolding at
empty_at table is number = ap (λ (entries : List (ℕ × ℕ)). find nat_cmp number entries) is

-- cells whose rows are found in another way that finds the same
pub same_cells : (columns : ℕ) (found other : ℕ → Option ℕ) (tells : Record → Option (ℕ × ℕ)) (cells : ℕ) (records : List Record) (counts : List ℕ) → ((number : ℕ) → found number ≡ other number) → AreCounts (λ it. cell_of columns found (tells it)) cells records counts → AreCounts (λ it. cell_of columns other (tells it)) cells records counts
same_cells columns found other tells cells records counts same it =
    subst (λ (f : ℕ → Option ℕ). AreCounts (λ r. cell_of columns f (tells r)) cells records counts) (λ i. λ number. same number i) it

-- what two tables find of a run
pub run_found : (ccbs runs : BTreeMap ℕ ℕ) (lines : List CarriedLine) (records : List Record) → ((number : ℕ) → at ccbs number ≡ queue_of lines records number) → ((number : ℕ) → at runs number ≡ ccb_of records number) → (number : ℕ) → at_both ccbs runs number ≡ queue_of_run lines records number
run_found ccbs runs lines records queues ccbs_of number = λ i. and_then (ccbs_of number i) (λ ccb. queues ccb i)

-- what is left after one record more
pub rest_left : (before now left rest items : List Record) (more : Record) → now ≡ before ++ more ∷ [] → left ≡ more ∷ rest → before ++ left ≡ items → now ++ rest ≡ items
rest_left before now left rest items more one_more here all =
    ap (λ (records : List Record). records ++ rest) one_more
    ∙ (append_assoc before (more ∷ []) rest
    ∙ (ap (λ (records : List Record). before ++ records) (sym here) ∙ all))
