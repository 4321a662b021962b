-- Which instruction stands at each place of a plain program.
use Rattle.std.proofs.Common.{◌≡◌, ℕ, zero, suc, ℤ, pos, ◌+◌, ◌-◌, ◌<◌, ◌≤◌, false, List, [], ◌∷◌, ◌++◌, length, Option, Some, None, refl, ap, sym, ◌∙◌, arith, inl, inr}
use Rattle.std.specs.Prelude.{slice_get}
use Rattle.std.proofs.lemmas.Bool.{cases_eq, cases_lt}
use Rattle.std.proofs.lemmas.List.{length-append}
use Rattle.bpf_insn.specs.declared.insn.Insn.{Insn}
use Rattle.bpf_insn.specs.declared.insn.Insn.TheVariants.{Alu, InPlace, SignExtend, JumpIf, Jump, LoadImmediate, Load, Store, Call, Exit}
use Rattle.bpf_insn.specs.declared.insn.Operand.TheVariants.{Immediate, Register}
use Rattle.bpf_insn.specs.declared.insn.Callee.TheVariants.{Helper}
use Rattle.bpf_insn.specs.declared.insn.Width.TheVariants.{Bits64}
use Rattle.bpf_insn.specs.declared.insn.AluOp.TheVariants.{Mov}
use Rattle.bpf_insn.specs.declared.insn.Condition.TheVariants.{Equal}
use Rattle.bpf_insn.specs.declared.reg.Reg.TheVariants.{R0, R1, R2}
use Rattle.bpf_insn.specs.declared.program.Slot.{Slot}
use Rattle.bpf_insn.specs.declared.program.Slot.TheVariants.{First}
use Rattle.bpf_insn.specs.Program.{is_wide, further_slots, insn_at, layout}
use Rattle.verifier.specs.Plain.{IsContextLoad, IsListed, IsPlain, releases, requeues, plain}

-- each instruction takes one slot
abbrev pub AreNarrow : List Insn → Type 0
AreNarrow insns = (i : ℕ) (insn : Insn) → slice_get insns i ≡ Some insn → is_wide insn ≡ false

loaded_narrow : (insn : Insn) → IsContextLoad insn → is_wide insn ≡ false
loaded_narrow (Load form dst src offset) is = refl
loaded_narrow (LoadImmediate dst value) is = absurd is
loaded_narrow (Alu width op dst src) is = refl
loaded_narrow (InPlace op dst) is = refl
loaded_narrow (SignExtend extension dst src) is = refl
loaded_narrow (JumpIf width condition dst src offset) is = refl
loaded_narrow (Jump distance) is = refl
loaded_narrow (Store size dst src offset) is = refl
loaded_narrow (Call callee) is = refl
loaded_narrow Exit is = refl

listed_narrow : (place end : ℕ) (insn : Insn) → IsListed place end insn → is_wide insn ≡ false
listed_narrow place end (Alu width op dst src) is = refl
listed_narrow place end (InPlace op dst) is = refl
listed_narrow place end (SignExtend extension dst src) is = refl
listed_narrow place end (JumpIf width condition dst src offset) is = refl
listed_narrow place end (Jump distance) is = refl
listed_narrow place end (LoadImmediate dst value) is = absurd is
listed_narrow place end (Load form dst src offset) is = refl
listed_narrow place end (Store size dst src offset) is = refl
listed_narrow place end (Call callee) is = refl
listed_narrow place end Exit is = refl

narrow_append : (xs ys : List Insn) → AreNarrow xs → AreNarrow ys → AreNarrow (xs ++ ys)
narrow_append [] ys narrow_xs narrow_ys i insn at = narrow_ys i insn at
narrow_append (x ∷ xs) ys narrow_xs narrow_ys zero insn at = narrow_xs 0 insn at
narrow_append (x ∷ xs) ys narrow_xs narrow_ys (suc i) insn at = narrow_append xs ys (λ j other there. narrow_xs (suc j) other there) narrow_ys i insn at

same_insn : (a b : Insn) → Some a ≡ Some b → b ≡ a
same_insn a b e = let same : a ≡ b = cc in sym same

releases_narrow : AreNarrow releases
releases_narrow zero insn at = ap is_wide (same_insn _ insn at)
releases_narrow (suc zero) insn at = ap is_wide (same_insn _ insn at)
releases_narrow (suc (suc zero)) insn at = ap is_wide (same_insn _ insn at)
releases_narrow (suc (suc (suc i))) insn at = absurd (let bad : None ≡ Some insn = at in cc)

requeues_narrow : (n k : ℤ) → AreNarrow (requeues n k)
requeues_narrow n k zero insn at = ap is_wide (same_insn _ insn at)
requeues_narrow n k (suc zero) insn at = ap is_wide (same_insn _ insn at)
requeues_narrow n k (suc (suc zero)) insn at = ap is_wide (same_insn _ insn at)
requeues_narrow n k (suc (suc (suc zero))) insn at = ap is_wide (same_insn _ insn at)
requeues_narrow n k (suc (suc (suc (suc i)))) insn at = absurd (let bad : None ≡ Some insn = at in cc)

pub plain_narrow : (program : List Slot) (is : IsPlain program) → AreNarrow (plain is.loads is.list is.retries is.answer)
plain_narrow program is =
    narrow_append is.loads (releases ++ (is.list ++ requeues is.retries is.answer)) (λ i insn at. loaded_narrow insn (is.loaded i insn at))
    (narrow_append releases (is.list ++ requeues is.retries is.answer) releases_narrow
    (narrow_append is.list (requeues is.retries is.answer) (λ i insn at. listed_narrow (length is.loads + 3 + i) (length is.loads + 3 + length is.list) insn (is.listed i insn at)) (requeues_narrow is.retries is.answer)))

-- the first slot of an instruction is its place in the list
narrow_on : (x : Insn) (xs : List Insn) → ((i : ℕ) → insn_at (layout xs) i ≡ slice_get xs i) → (i : ℕ) → insn_at (First x ∷ layout xs) i ≡ slice_get (x ∷ xs) i
narrow_on x xs rest zero = refl
narrow_on x xs rest (suc i) = rest i

narrow_at : (insns : List Insn) → AreNarrow insns → (i : ℕ) → insn_at (layout insns) i ≡ slice_get insns i
narrow_at [] narrow i = refl
narrow_at (x ∷ xs) narrow i =
    ap (λ w. insn_at (First x ∷ (further_slots w ++ layout xs)) i) (narrow 0 x refl)
    ∙ narrow_on x xs (narrow_at xs (λ j insn at. narrow (suc j) insn at)) i

pub narrow_length : (insns : List Insn) → AreNarrow insns → length (layout insns) ≡ length insns
narrow_length [] narrow = refl
narrow_length (x ∷ xs) narrow = ap (λ w. length (First x ∷ (further_slots w ++ layout xs))) (narrow 0 x refl) ∙ ap suc (narrow_length xs (λ j insn at. narrow (suc j) insn at))

in_front : (xs ys : List Insn) (i : ℕ) → i < length xs → slice_get (xs ++ ys) i ≡ slice_get xs i
in_front [] ys i lt = absurd (omega (arith, lt))
in_front (x ∷ xs) ys zero lt = refl
in_front (x ∷ xs) ys (suc i) lt = in_front xs ys i (omega (arith, lt))

in_back : (xs ys : List Insn) (j : ℕ) → slice_get (xs ++ ys) (length xs + j) ≡ slice_get ys j
in_back [] ys j = let same : 0 + j ≡ j = omega arith in ap (slice_get ys) same
in_back (x ∷ xs) ys j =
    let on : suc (length xs) + j ≡ suc (length xs + j) = omega arith in
    ap (slice_get (x ∷ (xs ++ ys))) on ∙ in_back xs ys j

-- an instruction begins in each slot
pub narrow_begins : (insns : List Insn) → AreNarrow insns → (i : ℕ) → i < length insns → (insn : Insn) × (insn_at (layout insns) i ≡ Some insn)
narrow_begins insns narrow i lt =
    let there = there_is insns i lt in
    (there.0, narrow_at insns narrow i ∙ there.1)
  where
    there_is : (xs : List Insn) (j : ℕ) → j < length xs → (insn : Insn) × (slice_get xs j ≡ Some insn)
    there_is [] j lt = absurd (omega (arith, lt))
    there_is (x ∷ xs) zero lt = (x, refl)
    there_is (x ∷ xs) (suc j) lt = there_is xs j (omega (arith, lt))

pub length_plain : (program : List Slot) (is : IsPlain program) → length program ≡ length is.loads + 7 + length is.list
length_plain program is =
    let all = narrow_length (plain is.loads is.list is.retries is.answer) (plain_narrow program is) in
    let loads = length-append is.loads (releases ++ (is.list ++ requeues is.retries is.answer)) in
    let start = length-append releases (is.list ++ requeues is.retries is.answer) in
    let list = length-append is.list (requeues is.retries is.answer) in
    ap length is.is ∙ omega (arith, all, loads, start, list)

-- what stands at a place, by where that is
plain_at : (program : List Slot) (is : IsPlain program) (i : ℕ) → insn_at program i ≡ slice_get (plain is.loads is.list is.retries is.answer) i
plain_at program is i = ap (λ (p : List Slot). insn_at p i) is.is ∙ narrow_at (plain is.loads is.list is.retries is.answer) (plain_narrow program is) i

at_load : (program : List Slot) (is : IsPlain program) (i : ℕ) → i < length is.loads → insn_at program i ≡ slice_get is.loads i
at_load program is i lt = plain_at program is i ∙ in_front is.loads (releases ++ (is.list ++ requeues is.retries is.answer)) i lt

behind_loads : (program : List Slot) (is : IsPlain program) (place j : ℕ) → place ≡ length is.loads + j → insn_at program place ≡ slice_get (releases ++ (is.list ++ requeues is.retries is.answer)) j
behind_loads program is place j e = ap (insn_at program) e ∙ (plain_at program is (length is.loads + j) ∙ in_back is.loads (releases ++ (is.list ++ requeues is.retries is.answer)) j)

at_list : (program : List Slot) (is : IsPlain program) (place i : ℕ) → place ≡ length is.loads + 3 + i → i < length is.list → insn_at program place ≡ slice_get is.list i
at_list program is place i e lt =
    behind_loads program is place (3 + i) (omega (arith, e))
    ∙ (in_back releases (is.list ++ requeues is.retries is.answer) i ∙ in_front is.list (requeues is.retries is.answer) i lt)

at_end : (program : List Slot) (is : IsPlain program) (place j : ℕ) → place ≡ length is.loads + 3 + length is.list + j → insn_at program place ≡ slice_get (requeues is.retries is.answer) j
at_end program is place j e =
    behind_loads program is place (3 + (length is.list + j)) (omega (arith, e))
    ∙ (in_back releases (is.list ++ requeues is.retries is.answer) (length is.list + j) ∙ in_back is.list (requeues is.retries is.answer) j)

abbrev pub test : Insn
test = JumpIf Bits64 Equal R2 (Immediate (pos 0)) (pos 2)

abbrev pub copy : Insn
copy = Alu Bits64 Mov R1 (Register R2)

abbrev pub release : Insn
release = Call (Helper (pos 2))

-- the part of a plain program where a place is, and the instruction there
pub data Stands (program : List Slot) (is : IsPlain program) (place : ℕ) (insn : Insn) : Type 0 where
  loads_there : place < length is.loads → IsContextLoad insn → Stands program is place insn
  tests : place ≡ length is.loads → insn ≡ test → Stands program is place insn
  copies : place ≡ length is.loads + 1 → insn ≡ copy → Stands program is place insn
  gives_back : place ≡ length is.loads + 2 → insn ≡ release → Stands program is place insn
  lists : (i : ℕ) → place ≡ length is.loads + 3 + i → i < length is.list → slice_get is.list i ≡ Some insn → Stands program is place insn
  sets_retries : place ≡ length is.loads + 3 + length is.list → insn ≡ Alu Bits64 Mov R1 (Immediate is.retries) → Stands program is place insn
  requeues_there : place ≡ length is.loads + 4 + length is.list → insn ≡ Call (Helper (pos 4)) → Stands program is place insn
  sets_answer : place ≡ length is.loads + 5 + length is.list → insn ≡ Alu Bits64 Mov R0 (Immediate is.answer) → Stands program is place insn
  exits : place ≡ length is.loads + 6 + length is.list → insn ≡ Exit → Stands program is place insn

pub there_inside : (slots : List Slot) (k : ℕ) (insn : Insn) → insn_at slots k ≡ Some insn → k < length slots
there_inside [] k insn at = absurd (let bad : None ≡ Some insn = at in cc)
there_inside (s ∷ ss) zero insn at = omega arith
there_inside (s ∷ ss) (suc k) insn at = omega (arith, there_inside ss k insn at)

found : (a b : Insn) (o : Option Insn) → o ≡ Some b → o ≡ Some a → a ≡ b
found a b o e f = let same : b ≡ a = cc in sym same

pub stands : (program : List Slot) (is : IsPlain program) (place : ℕ) (insn : Insn) → insn_at program place ≡ Some insn → Stands program is place insn
stands program is place insn at =
    elim (cases_lt place (length is.loads)) [
      | inl lt ↦ loads_there lt (is.loaded place insn (sym (at_load program is place lt) ∙ at))
      | inr past ↦ elim (cases_eq place (length is.loads)) [
        | inl e ↦ tests e (found insn test (insn_at program place) (behind_loads program is place 0 (omega (arith, e))) at)
        | inr apart ↦ elim (cases_eq place (length is.loads + 1)) [
          | inl e ↦ copies e (found insn copy (insn_at program place) (behind_loads program is place 1 e) at)
          | inr apart_1 ↦ elim (cases_eq place (length is.loads + 2)) [
            | inl e ↦ gives_back e (found insn release (insn_at program place) (behind_loads program is place 2 e) at)
            | inr apart_2 ↦ behind_start (omega (arith, past, apart, apart_1, apart_2))
          ]
        ]
      ]
    ]
  where
    behind_list : length is.loads + 3 + length is.list ≤ place → Stands program is place insn
    behind_list past =
        elim (cases_eq place (length is.loads + 3 + length is.list)) [
          | inl e ↦ sets_retries e (found insn _ (insn_at program place) (at_end program is place 0 (omega (arith, e))) at)
          | inr apart ↦ elim (cases_eq place (length is.loads + 4 + length is.list)) [
            | inl e ↦ requeues_there e (found insn _ (insn_at program place) (at_end program is place 1 (omega (arith, e))) at)
            | inr apart_1 ↦ elim (cases_eq place (length is.loads + 5 + length is.list)) [
              | inl e ↦ sets_answer e (found insn _ (insn_at program place) (at_end program is place 2 (omega (arith, e))) at)
              | inr apart_2 ↦
                  let e : place ≡ length is.loads + 6 + length is.list = omega (arith, past, apart, apart_1, apart_2, there_inside program place insn at, length_plain program is) in
                  exits e (found insn _ (insn_at program place) (at_end program is place 3 (omega (arith, e))) at)
            ]
          ]
        ]

    behind_start : length is.loads + 3 ≤ place → Stands program is place insn
    behind_start above =
        let i : ℕ = place - (length is.loads + 3) in
        let at_i : place ≡ length is.loads + 3 + i = omega (arith, above) in
        elim (cases_lt i (length is.list)) [
          | inl lt ↦ lists i at_i lt (sym (at_list program is place i at_i lt) ∙ at)
          | inr past ↦ behind_list (omega (arith, at_i, past))
        ]
