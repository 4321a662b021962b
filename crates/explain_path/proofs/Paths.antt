-- The slots of a path settle where it stands. So slots that are tried one after the other are a path's, or fail at one of them.
use Rattle.std.proofs.Common.{◌≡◌, ℕ, suc, ◌<◌, ◌⊎◌, List, [], ◌∷◌, ◌++◌, length, take, slice_index_or, refl, sym, subst, ap, ◌∙◌, arith, inl, inr}
use Rattle.std.proofs.lemmas.Bool.{cases_eq}
use Rattle.std.proofs.lemmas.List.{get_or_append_left, get_or_at, length-append, same_from_push, take-append-le, take_at}
use Rattle.std.proofs.lemmas.Option.{same_Some}
use Rattle.bpf_insn.specs.declared.insn.Insn.{Insn}
use Rattle.bpf_insn.specs.declared.insn.Insn.TheVariants.{Alu, InPlace, SignExtend, JumpIf, Jump, LoadImmediate, Load, Store, Call, Exit}
use Rattle.bpf_insn.specs.declared.insn.Callee.TheVariants.{Helper, Local}
use Rattle.bpf_insn.specs.declared.program.Slot.{Slot}
use Rattle.call_shape.specs.StaticPath.{Standing, StepLeadsTo, ReturnsTo, moved}
use Rattle.explain_path.specs.Passes.{IsPath, StandingLeads, Passes, begins, goes_on, standing}

-- ---- one step

moved_same : (at to there : Standing) (x y : ℕ) → to ≡ moved at x → there ≡ moved at y → to.slot ≡ there.slot → to ≡ there
moved_same at to there x y p q same =
    let alike : x ≡ y = sym (ap (λ (s : Standing). s.slot) p) ∙ same ∙ ap (λ (s : Standing). s.slot) q in
    p ∙ ap (moved at) alike ∙ sym q

returned_same : (returns : List ℕ) (to there : Standing) → ReturnsTo returns to → ReturnsTo returns there → to ≡ there
returned_same [] to there p q = absurd p
returned_same (return ∷ returns) to there p q = p ∙ sym q

jumped_same : (at to there : Standing) (x y : ℕ) → (to ≡ moved at x) ⊎ (to ≡ moved at y) → (there ≡ moved at x) ⊎ (there ≡ moved at y) → to.slot ≡ there.slot → to ≡ there
jumped_same at to there x y (inl p) (inl q) same = moved_same at to there x x p q same
jumped_same at to there x y (inl p) (inr q) same = moved_same at to there x y p q same
jumped_same at to there x y (inr p) (inl q) same = moved_same at to there y x p q same
jumped_same at to there x y (inr p) (inr q) same = moved_same at to there y y p q same

-- an instruction leads to a slot in one way
led_same : (at to there : Standing) (insn : Insn) → StepLeadsTo at insn to → StepLeadsTo at insn there → to.slot ≡ there.slot → to ≡ there
led_same at to there (Alu width op dst src) p q same = p ∙ sym q
led_same at to there (InPlace op dst) p q same = p ∙ sym q
led_same at to there (SignExtend extension dst src) p q same = p ∙ sym q
led_same at to there (JumpIf width condition dst src offset) p q same = jumped_same at to there _ _ p q same
led_same at to there (Jump distance) p q same = p ∙ sym q
led_same at to there (LoadImmediate dst value) p q same = p ∙ sym q
led_same at to there (Load form dst src offset) p q same = p ∙ sym q
led_same at to there (Store size dst src offset) p q same = p ∙ sym q
led_same at to there (Call (Helper number)) p q same = p ∙ sym q
led_same at to there (Call (Local distance)) p q same = p ∙ sym q
led_same at to there Exit p q same = returned_same at.returns to there p q

leads_same : (program : List Slot) (at to there : Standing) → StandingLeads program at to → StandingLeads program at there → to.slot ≡ there.slot → to ≡ there
leads_same program at to there one other same =
    let insn : one.0 ≡ other.0 = same_Some one.0 other.0 (sym one.1 ∙ other.1) in
    led_same at to there other.0 (subst (λ (i : Insn). StepLeadsTo at i to) insn one.2) other.2 same

-- ---- paths

some_slot : (program : List Slot) (slots : List ℕ) (at : Standing) → Passes program slots at → 0 < length slots
some_slot program slots at begins = omega arith
some_slot program slots at (goes_on before from to passes leads) = omega (arith, length-append before (to.slot ∷ []))

not_first : (program : List Slot) (slots : List ℕ) (at : Standing) (last : ℕ) → Passes program slots at → 0 ∷ [] ≡ slots ++ last ∷ [] → ⊥
not_first program slots at last passes e = omega (arith, some_slot program slots at passes, ap (λ (l : List ℕ). length l) e, length-append slots (last ∷ []))

-- where a path stands
pub settled : (program : List Slot) (slots others : List ℕ) (at there : Standing) → Passes program slots at → Passes program others there → slots ≡ others → at ≡ there
settled program slots others at there begins begins e = refl
settled program slots others at there begins (goes_on before from to passes leads) e = absurd (not_first program before from to.slot passes e)
settled program slots others at there (goes_on before from to passes leads) begins e = absurd (not_first program before from to.slot passes (sym e))
settled program slots others at there (goes_on before from to passes leads) (goes_on before' from' to' passes' leads') e =
    let same = same_from_push before before' to.slot to'.slot e in
    let alike : from ≡ from' = settled program before before' from from' passes passes' same.0 in
    leads_same program from to to' leads (subst (λ (s : Standing). StandingLeads program s to') (sym alike) leads') same.1

-- a path up to one of its slots, and the step to it
pub record Steps (program : List Slot) (slots : List ℕ) (place : ℕ) : Type 0 where
  pub from : Standing
  pub to : Standing
  pub passes : Passes program (take place slots) from
  pub leads : StandingLeads program from to
  pub slot : to.slot ≡ slice_index_or slots place 0

steps_at : (program : List Slot) (slots : List ℕ) (at : Standing) → Passes program slots at → (place : ℕ) → 0 < place → place < length slots → Steps program slots place
steps_at program slots at begins place some within = absurd (omega (arith, some, within))
steps_at program slots at (goes_on before from to passes leads) place some within =
    let many = length-append before (to.slot ∷ []) in
    elim (cases_eq place (length before)) [
      | inl last ↦ record {
        from = from;
        to = to;
        passes = subst (λ (l : List ℕ). Passes program l from) (sym (take_at before (to.slot ∷ []) place (sym last))) passes;
        leads = leads;
        slot = sym (get_or_at before to.slot [] 0 place (sym last));
      }
      | inr apart ↦
          let lt : place < length before = omega (arith, within, many, apart) in
          let step = steps_at program before from passes place some lt in
          record {
            from = step.from;
            to = step.to;
            passes = subst (λ (l : List ℕ). Passes program l step.from) (sym (take-append-le place before (to.slot ∷ []) (omega (arith, lt)))) step.passes;
            leads = step.leads;
            slot = step.slot ∙ sym (get_or_append_left before (to.slot ∷ []) 0 place lt);
          }
    ]

-- where no step leads to the next slot there is no path
pub no_path : (program : List Slot) (slots : List ℕ) (place at : ℕ) (returns : List ℕ) → Passes program (0 ∷ take place slots) (standing at returns) → place < length slots
    → ((there : List ℕ) → StandingLeads program (standing at returns) (standing (slice_index_or slots place 0) there) → ⊥) → IsPath program (0 ∷ slots) → ⊥
no_path program slots place at returns passes within none path =
    let step = steps_at program (0 ∷ slots) path.0 path.1 (suc place) (omega arith) (omega (arith, within)) in
    let same : step.from ≡ standing at returns = settled program (0 ∷ take place slots) (0 ∷ take place slots) step.from (standing at returns) step.passes passes refl in
    let there : step.to ≡ standing (slice_index_or slots place 0) step.to.returns = ap (λ (slot : ℕ). standing slot step.to.returns) step.slot in
    none step.to.returns (subst (λ (s : Standing). StandingLeads program (standing at returns) s) there (subst (λ (s : Standing). StandingLeads program s step.to) same step.leads))

-- a path begins at slot 0, and at no other
pub at_first : (program : List Slot) (slots : List ℕ) (at : Standing) → Passes program slots at → (rest : List ℕ) × (slots ≡ 0 ∷ rest)
at_first program slots at begins = ([], refl)
at_first program slots at (goes_on before from to passes leads) =
    let first = at_first program before from passes in
    (first.0 ++ to.slot ∷ [], ap (λ (l : List ℕ). l ++ to.slot ∷ []) first.1)

cons_nil : (x : ℕ) (xs : List ℕ) → [] ≡ x ∷ xs → ⊥
cons_nil x xs e = cc

pub some_first : (program : List Slot) → IsPath program [] → ⊥
some_first program path = let first = at_first program [] path.0 path.1 in cons_nil 0 first.0 first.1

pub no_other : (program : List Slot) (first : ℕ) (rest : List ℕ) → (first ≡ 0 → ⊥) → IsPath program (first ∷ rest) → ⊥
no_other program first rest apart path =
    let begun = at_first program (first ∷ rest) path.0 path.1 in
    apart (ap (λ (l : List ℕ). slice_index_or l 0 0) begun.1)
