-- Where instructions begin.
use Rattle.std.proofs.Common.{◌≡◌, ℕ, zero, suc, ◌+◌, ◌<◌, ◌≤◌, List, [], ◌∷◌, ◌++◌, length, Option, Some, None, Bool, true, false, is_some, refl, ap, sym, subst, ◌∙◌, arith, inl, inr, ◌⊎◌}
use Rattle.std.proofs.lemmas.List.{length-append}
use Rattle.bpf_insn.specs.declared.insn.Insn.{Insn}
use Rattle.bpf_insn.specs.declared.program.Slot.{Slot}
use Rattle.bpf_insn.specs.declared.program.Slot.TheVariants.{First}
use Rattle.bpf_insn.specs.Program.{IsProgram, insn_at, insns_in, is_wide, further_slots, slots_of, layout}
use Rattle.call_shape.specs.Calls.{begins}
use Rattle.call_shape.specs.Shape.{behind}

-- no instruction is after a program's end
pub past_end : (program : List Slot) (k : ℕ) → length program ≤ k → insn_at program k ≡ None
past_end [] k le = refl
past_end (s ∷ ss) zero le = absurd (omega arith)
past_end (s ∷ ss) (suc k) le = past_end ss k (omega arith)

pub begins_inside : (program : List Slot) (k : ℕ) → begins program k ≡ true → k < length program
begins_inside [] k e = absurd cc
begins_inside (s ∷ ss) zero e = omega arith
begins_inside (s ∷ ss) (suc k) e = omega (arith, begins_inside ss k e)

some_there : (o : Option Insn) → is_some o ≡ true → (insn : Insn) × (o ≡ Some insn)
some_there (Some insn) e = (insn, refl)
some_there None e = absurd cc

pub begins_there : (program : List Slot) (place : ℕ) → begins program place ≡ true → (insn : Insn) × (insn_at program place ≡ Some insn)
begins_there program place e = some_there (insn_at program place) e

pub there_begins : (program : List Slot) (place : ℕ) (insn : Insn) → insn_at program place ≡ Some insn → begins program place ≡ true
there_begins program place insn e = ap is_some e

-- the slots of an instruction, by whether it is wide
abbrev spread : Bool → Insn → List Slot
spread wide insn = First insn ∷ further_slots wide

skipped : (wide : Bool) (insn : Insn) (rest : List Slot) (k : ℕ) → insn_at (spread wide insn ++ rest) (length (spread wide insn) + k) ≡ insn_at rest k
skipped true insn rest k = ap (insn_at (spread true insn ++ rest)) (let e : 2 + k ≡ suc (suc k) = omega arith in e)
skipped false insn rest k = ap (insn_at (spread false insn ++ rest)) (let e : 1 + k ≡ suc k = omega arith in e)

-- what follows an instruction's first slot belongs to what follows it
later : (wide : Bool) (first : Insn) (rest : List Slot) (k : ℕ) (insn : Insn) → insn_at (spread wide first ++ rest) (suc k) ≡ Some insn → (j : ℕ) × (insn_at rest j ≡ Some insn) × (suc k ≡ length (spread wide first) + j)
later true first rest zero insn e = absurd cc
later true first rest (suc k) insn e = (k, e, omega arith)
later false first rest k insn e = (k, e, omega arith)

first_begins : (insns : List Insn) → 0 < length (layout insns) → begins (layout insns) 0 ≡ true
first_begins [] lt = absurd (omega arith)
first_begins (insn ∷ insns) lt = refl

-- a place of a layout is its end, or an instruction begins there
abbrev IsSeam : List Slot → ℕ → Type 0
IsSeam slots place = (place ≡ length slots) ⊎ (begins slots place ≡ true)

first_seam : (insns : List Insn) → IsSeam (layout insns) 0
first_seam [] = inl refl
first_seam (insn ∷ insns) = inr refl

seam_later : (wide : Bool) (first : Insn) (rest : List Slot) (place j : ℕ) → place ≡ length (spread wide first) + j → IsSeam rest j → IsSeam (spread wide first ++ rest) place
seam_later wide first rest place j is (inl end) = inl (omega (arith, is, end, length-append (spread wide first) rest))
seam_later wide first rest place j is (inr here) = inr (rw is (ap is_some (skipped wide first rest j) ∙ here))

same_insn : (a b : Insn) → Some a ≡ Some b → b ≡ a
same_insn a b e = let same : a ≡ b = cc in sym same

-- after an instruction of a layout is the next one or the end
seam_behind : (insns : List Insn) (place : ℕ) (insn : Insn) → insn_at (layout insns) place ≡ Some insn → IsSeam (layout insns) (behind place insn)
seam_behind [] place insn e = absurd cc
seam_behind (first ∷ rest) zero insn e =
    rw (same_insn first insn e) (seam_later (is_wide first) first (layout rest) (0 + length (slots_of first)) 0 (omega arith) (first_seam rest))
seam_behind (first ∷ rest) (suc place) insn e =
    let on = later (is_wide first) first (layout rest) place insn e in
    seam_later (is_wide first) first (layout rest) (behind (suc place) insn) (behind on.0 insn) (omega (arith, on.2)) (seam_behind rest on.0 insn on.1)

-- the second slot of a wide instruction begins none
second_empty : (insns : List Insn) (place : ℕ) (insn : Insn) → insn_at (layout insns) place ≡ Some insn → is_wide insn ≡ true → insn_at (layout insns) (suc place) ≡ None
second_empty [] place insn e wide = absurd cc
second_empty (first ∷ rest) zero insn e wide = by (is_wide first) first (layout rest) (ap is_wide (sym (same_insn first insn e)) ∙ wide)
  where
    by : (b : Bool) (first : Insn) (rest : List Slot) → b ≡ true → insn_at (spread b first ++ rest) 1 ≡ None
    by true first rest e = refl
    by false first rest e = absurd cc
second_empty (first ∷ rest) (suc place) insn e wide =
    let on = later (is_wide first) first (layout rest) place insn e in
    let at : suc (suc place) ≡ length (slots_of first) + suc on.0 = omega (arith, on.2) in
    rw at (skipped (is_wide first) first (layout rest) (suc on.0) ∙ second_empty rest on.0 insn on.1 wide)

pub begins_first : (program : List Slot) → IsProgram program → begins program 0 ≡ true
begins_first program is =
    subst (λ (p : List Slot). begins p 0 ≡ true) (sym is.laid_out)
    (first_begins (insns_in program) (subst (λ (p : List Slot). 0 < length p) is.laid_out (omega (arith, is.in_range.0))))

pub begins_behind : (program : List Slot) (place : ℕ) (insn : Insn) → IsProgram program → insn_at program place ≡ Some insn → behind place insn < length program → begins program (behind place insn) ≡ true
begins_behind program place insn is e lt =
    let seam : IsSeam program (behind place insn) =
    subst (λ (p : List Slot). IsSeam p (behind place insn)) (sym is.laid_out)
    (seam_behind (insns_in program) place insn (subst (λ (p : List Slot). insn_at p place ≡ Some insn) is.laid_out e)) in
    elim seam [ inl end ↦ absurd (omega (arith, end, lt)) | inr here ↦ here ]

pub none_in_second : (program : List Slot) (place : ℕ) (insn : Insn) → IsProgram program → insn_at program place ≡ Some insn → is_wide insn ≡ true → insn_at program (suc place) ≡ None
none_in_second program place insn is e wide =
    subst (λ (p : List Slot). insn_at p (suc place) ≡ None) (sym is.laid_out)
    (second_empty (insns_in program) place insn (subst (λ (p : List Slot). insn_at p place ≡ Some insn) is.laid_out e) wide)

-- an instruction takes one slot or two
by_width : (b : Bool) (insn : Insn) → (length (spread b insn) ≡ 1) ⊎ ((length (spread b insn) ≡ 2) × (b ≡ true))
by_width true insn = inr (refl, refl)
by_width false insn = inl refl

pub behind_cases : (place : ℕ) (insn : Insn) → (behind place insn ≡ suc place) ⊎ ((behind place insn ≡ suc (suc place)) × (is_wide insn ≡ true))
behind_cases place insn = elim (by_width (is_wide insn) insn) [
  | inl one ↦ inl (omega (arith, one))
  | inr two ↦ inr (omega (arith, two.0), two.1)
]

-- the last instruction, after which a layout ends
abbrev HasLast : List Slot → Type 0
HasLast slots = (place : ℕ) × (insn : Insn) × (insn_at slots place ≡ Some insn) × (behind place insn ≡ length slots)

last_of : (first : Insn) (rest : List Insn) → HasLast (layout (first ∷ rest))
last_of first [] = (0, first, refl, omega (arith, length-append (slots_of first) []))
last_of first (next ∷ rest) =
    let last = last_of next rest in
    let skip : ℕ = length (slots_of first) in (
      skip + last.0,
      last.1,
      skipped (is_wide first) first (layout (next ∷ rest)) last.0 ∙ last.2,
      omega (arith, last.3, length-append (slots_of first) (layout (next ∷ rest))),
    )

last_insn : (insns : List Insn) → 0 < length (layout insns) → HasLast (layout insns)
last_insn [] lt = absurd (omega arith)
last_insn (first ∷ rest) lt = last_of first rest

pub last_there : (program : List Slot) → IsProgram program → (place : ℕ) × (insn : Insn) × (insn_at program place ≡ Some insn) × (behind place insn ≡ length program)
last_there program is =
    subst HasLast (sym is.laid_out) (last_insn (insns_in program) (subst (λ (p : List Slot). 0 < length p) is.laid_out (omega (arith, is.in_range.0))))
