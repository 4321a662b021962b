-- The instructions from a place to the end of its function, with local calls written out so many deep.
use Rattle.std.proofs.Common.{◌≡◌, ℕ, zero, suc, ◌+◌, ◌<◌, ◌≤◌, ◌&&◌, Bool, true, false, cond, leb, eqb, List, length, Some, refl, ap, sym, ◌∙◌, arith, inl, inr}
use Rattle.std.specs.Option.{option_map_or}
use Rattle.std.proofs.lemmas.Bool.{cases_eq, cases_lt, cases_Bool, le-leb, lt-leb, leb-true, eq-eqb, ne_eqb, cond-true, cond-false, or_cases, or_parts}
use Rattle.bpf_insn.specs.declared.insn.Insn.{Insn}
use Rattle.bpf_insn.specs.declared.program.Slot.{Slot}
use Rattle.bpf_insn.specs.Program.{IsProgram, insn_at}
use Rattle.call_shape.specs.Calls.{callee_in, is_start, function_of}
use Rattle.call_shape.specs.Shape.{behind, is_function_end}
use Rattle.call_shape.specs.WrittenOut.{total, count_at, written_out}
use Rattle.call_shape.proofs.Places.{begins_inside, there_begins, none_in_second, behind_cases}
use Rattle.call_shape.proofs.SlotFunctions.{function_before, own_function, nearest_start, function_behind}

total_same : (f g : ℕ → ℕ) (n : ℕ) → ((k : ℕ) → k < n → f k ≡ g k) → total f n ≡ total g n
total_same f g zero same = refl
total_same f g (suc n) same = omega (arith, total_same f g n (λ k lt. same k (omega (arith, lt))), same n (omega arith))

-- sums that differ at one place
total_more : (f g : ℕ → ℕ) (n place x : ℕ) → place < n → ((k : ℕ) → k < n → (k ≡ place → ⊥) → f k ≡ g k) → f place ≡ x + g place → total f n ≡ x + total g n
total_more f g zero place x lt same here = absurd (omega arith)
total_more f g (suc n) place x lt same here = elim (cases_eq n place) [
  | inl last ↦
      omega (arith, total_same f g n (λ k below. same k (omega (arith, below)) (λ e. absurd (omega (arith, e, last, below)))), ap f last, ap g last, here)
  | inr other ↦
      omega (arith, total_more f g n place x (omega (arith, lt, other)) (λ k below. same k (omega (arith, below))) here, same n (omega arith) other)
]

-- what the instruction at a place counts
abbrev pub weight : ℕ → List Slot → ℕ → ℕ
weight deep program place = count_at (written_out deep program) place (insn_at program place)

-- those places count that are from a place on in a function
abbrev pub tail_at : ℕ → List Slot → ℕ → ℕ → ℕ → ℕ
tail_at deep program place function k = cond (leb place k && eqb (function_of program k) function) (weight deep program k) 0

abbrev pub tail : ℕ → List Slot → ℕ → ℕ
tail deep program place = total (tail_at deep program place (function_of program place)) (length program)

counts_there : (deep : ℕ) (program : List Slot) (place function k : ℕ) → place ≤ k → function_of program k ≡ function → tail_at deep program place function k ≡ weight deep program k
counts_there deep program place function k le own = rw (le-leb place k le, eq-eqb (function_of program k) function own) refl

counts_not_before : (deep : ℕ) (program : List Slot) (place function k : ℕ) → k < place → tail_at deep program place function k ≡ 0
counts_not_before deep program place function k lt = rw (lt-leb place k lt) refl

counts_not_other : (deep : ℕ) (program : List Slot) (place function k : ℕ) → (function_of program k ≡ function → ⊥) → tail_at deep program place function k ≡ 0
counts_not_other deep program place function k other = by (leb place k) (eqb (function_of program k) function) (weight deep program k) (ne_eqb _ _ other)
  where
    by : (a b : Bool) (w : ℕ) → b ≡ false → cond (a && b) w 0 ≡ 0
    by true true w e = absurd cc
    by true false w e = refl
    by false b w e = refl

counts_nothing : (deep : ℕ) (program : List Slot) (place function k : ℕ) → weight deep program k ≡ 0 → tail_at deep program place function k ≡ 0
counts_nothing deep program place function k none = by (leb place k && eqb (function_of program k) function) (weight deep program k) none
  where
    by : (b : Bool) (w : ℕ) → w ≡ 0 → cond b w 0 ≡ 0
    by true w e = e
    by false w e = refl

-- from the start of a function on all its instructions count
pub tail_of_start : (deep : ℕ) (program : List Slot) (start : ℕ) → is_start program start ≡ true → tail deep program start ≡ written_out (suc deep) program start
tail_of_start deep program start starts =
    total_same (tail_at deep program start (function_of program start)) (λ k. cond (eqb (function_of program k) start) (weight deep program k) 0) (length program) (λ k lt.
    elim (cases_eq (function_of program k) start) [
      | inl own ↦
          counts_there deep program start (function_of program start) k (omega (arith, own, function_before program k)) (own ∙ sym (own_function program start starts))
          ∙ sym (cond-true (eqb (function_of program k) start) (weight deep program k) 0 (eq-eqb _ _ own))
      | inr other ↦
          counts_not_other deep program start (function_of program start) k (λ e. other (e ∙ own_function program start starts))
          ∙ sym (cond-false (eqb (function_of program k) start) (weight deep program k) 0 (ne_eqb _ _ other))
    ])

-- between a place and what is after its instruction nothing counts
nothing_between : (deep : ℕ) (program : List Slot) (place k : ℕ) (insn : Insn) → IsProgram program → insn_at program place ≡ Some insn → place < k → k < behind place insn → weight deep program k ≡ 0
nothing_between deep program place k insn is at after before = elim (behind_cases place insn) [
  | inl one ↦ absurd (omega (arith, one, after, before))
  | inr two ↦
      let here : k ≡ suc place = omega (arith, two.0, after, before) in
      ap (weight deep program) here ∙ ap (count_at (written_out deep program) (suc place)) (none_in_second program place insn is at two.1)
]

-- the places after count as they did, where their function goes on
tail_on : (deep : ℕ) (program : List Slot) (place : ℕ) (insn : Insn) → IsProgram program → insn_at program place ≡ Some insn → is_function_end program (behind place insn) ≡ false → tail deep program place ≡ weight deep program place + tail deep program (behind place insn)
tail_on deep program place insn is at on =
    let next : ℕ = behind place insn in
    let own = function_behind program place insn is at (or_parts (leb (length program) next) (is_start program next) on).1 in
    total_more (tail_at deep program place (function_of program place)) (tail_at deep program next (function_of program next)) (length program) place (weight deep program place)
    (begins_inside program place (there_begins program place insn at)) (λ k lt other.
    elim (cases_lt k place) [
      | inl below ↦ counts_not_before deep program place _ k below ∙ sym (counts_not_before deep program next _ k (omega arith))
      | inr above ↦ elim (cases_lt k next) [
        | inl between ↦
            counts_nothing deep program place _ k (nothing_between deep program place k insn is at (omega (arith, other, above)) between)
            ∙ sym (counts_not_before deep program next _ k between)
        | inr further ↦ elim (cases_eq (function_of program k) (function_of program place)) [
          | inl same ↦ counts_there deep program place _ k above same ∙ sym (counts_there deep program next _ k further (same ∙ sym own))
          | inr different ↦ counts_not_other deep program place _ k different ∙ sym (counts_not_other deep program next _ k (λ e. different (e ∙ own)))
        ]
      ]
    ])
    (omega (arith, counts_there deep program place (function_of program place) place (omega arith) refl, counts_not_before deep program next (function_of program next) place (omega arith)))

nothing_left : (n : ℕ) → total (λ k. 0) n ≡ 0
nothing_left zero = refl
nothing_left (suc n) = omega (arith, nothing_left n)

-- and nothing more counts, where it ends
tail_end : (deep : ℕ) (program : List Slot) (place : ℕ) (insn : Insn) → IsProgram program → insn_at program place ≡ Some insn → is_function_end program (behind place insn) ≡ true → tail deep program place ≡ weight deep program place
tail_end deep program place insn is at ends =
    let next : ℕ = behind place insn in
    let one = total_more (tail_at deep program place (function_of program place)) (λ k. 0) (length program) place (weight deep program place)
    (begins_inside program place (there_begins program place insn at)) (λ k lt other.
    elim (cases_lt k place) [
      | inl below ↦ counts_not_before deep program place _ k below
      | inr above ↦ elim (cases_lt k next) [
        | inl between ↦ counts_nothing deep program place _ k (nothing_between deep program place k insn is at (omega (arith, other, above)) between)
        | inr further ↦ counts_not_other deep program place _ k (λ e. elim (or_cases (leb (length program) next) (is_start program next) ends) [
          | inl past ↦ omega (arith, leb-true _ _ past, lt, further)
          | inr starts ↦ omega (arith, nearest_start program next k starts further, e, function_before program place)
        ])
      ]
    ])
    (omega (arith, counts_there deep program place (function_of program place) place (omega arith) refl)) in
    omega (arith, one, nothing_left (length program))

-- what is left after an instruction in its function
abbrev pub rest_behind : ℕ → List Slot → ℕ → ℕ
rest_behind deep program next = cond (is_function_end program next) 0 (tail deep program next)

pub tail_is : (deep : ℕ) (program : List Slot) (place : ℕ) (insn : Insn) → IsProgram program → insn_at program place ≡ Some insn → tail deep program place ≡ option_map_or (written_out deep program) (callee_in place insn) 0 + rest_behind deep program (behind place insn) + 1
tail_is deep program place insn is at =
    let here : weight deep program place ≡ 1 + option_map_or (written_out deep program) (callee_in place insn) 0 = ap (count_at (written_out deep program) place) at in
    elim (cases_Bool (is_function_end program (behind place insn))) [
      | inl ends ↦ omega (arith, here, tail_end deep program place insn is at ends, cond-true (is_function_end program (behind place insn)) 0 (tail deep program (behind place insn)) ends)
      | inr on ↦ omega (arith, here, tail_on deep program place insn is at on, cond-false (is_function_end program (behind place insn)) 0 (tail deep program (behind place insn)) on)
    ]

total_least : (f g : ℕ → ℕ) (n : ℕ) → ((k : ℕ) → k < n → g k ≤ f k) → total g n ≤ total f n
total_least f g zero least = omega arith
total_least f g (suc n) least = omega (arith, total_least f g n (λ k lt. least k (omega (arith, lt))), least n (omega arith))

total_least_more : (f g : ℕ → ℕ) (n place x : ℕ) → place < n → ((k : ℕ) → k < n → g k ≤ f k) → x + g place ≤ f place → x + total g n ≤ total f n
total_least_more f g zero place x lt least here = absurd (omega arith)
total_least_more f g (suc n) place x lt least here = elim (cases_eq n place) [
  | inl last ↦ omega (arith, total_least f g n (λ k below. least k (omega (arith, below))), ap f last, ap g last, here)
  | inr other ↦ omega (arith, total_least_more f g n place x (omega (arith, lt, other)) (λ k below. least k (omega (arith, below))) here, least n (omega arith))
]

-- from a later place of the same function on at least this one counts no more
pub tail_drops : (deep : ℕ) (program : List Slot) (place later : ℕ) → place < length program → place < later → function_of program later ≡ function_of program place → weight deep program place + tail deep program later ≤ tail deep program place
tail_drops deep program place later inside lt own =
    total_least_more (tail_at deep program place (function_of program place)) (tail_at deep program later (function_of program later)) (length program) place (weight deep program place) inside (λ k within.
    elim (cases_lt k later) [
      | inl below ↦ omega (arith, counts_not_before deep program later (function_of program later) k below)
      | inr above ↦ elim (cases_eq (function_of program k) (function_of program place)) [
        | inl same ↦
            omega (arith, counts_there deep program place (function_of program place) k (omega (arith, lt, above)) same, counts_there deep program later (function_of program later) k above (same ∙ sym own))
        | inr other ↦ omega (arith, counts_not_other deep program later (function_of program later) k (λ e. other (e ∙ own)))
      ]
    ])
    (omega (arith, counts_there deep program place (function_of program place) place (omega arith) refl, counts_not_before deep program later (function_of program later) place lt))
