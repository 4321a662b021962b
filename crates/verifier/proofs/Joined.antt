-- What a join, and what an instruction leads on, does to a table.
use Rattle.std.proofs.Common.{◌≡◌, ℕ, zero, suc, ◌+◌, ◌-◌, ◌<◌, ◌≤◌, ◌++◌, ◌∷◌, [], arith, List, length, Option, Some, None, refl, ap, sym, subst, ◌∙◌, inl, inr, get_or-set_other, get_or-set_same}
use Rattle.std.specs.Prelude.{slice_set, IfSome, IsSome}
use Rattle.std.proofs.lemmas.Bool.{cases_eq, cases_lt}
use Rattle.std.proofs.lemmas.List.{get_or_append_left, get_or-append_right, length-append}
use Rattle.check_description.specs.declared.description.Description.{Description}
use Rattle.check_description.specs.declared.saved.SavedRegisters.{SavedRegisters}
use Rattle.bpf_insn.specs.declared.insn.Insn.TheVariants.{Exit}
use Rattle.bpf_semantics.specs.MachineState.{MachineState}
use Rattle.bpf_semantics.specs.Step.{does}
use Rattle.check_description.specs.Description.{Describes}
use Rattle.verifier.specs.Table.{Table, described, HasJoined, HasLeft, IsFirstTable, IsMerged}

pub same_description : (x y : Description) → Some x ≡ Some y → x ≡ y
same_description x y e = cc

-- an entry is described anew, and covers what is joined there and what was described
pub joined_in : (before : Table) (to : ℕ) (d merged : Description) → to < length before → IsMerged (described before to) d merged → HasJoined before to d (slice_set before to (Some merged))
joined_in before to d merged lt is =
    let here : described (slice_set before to (Some merged)) to ≡ Some merged = get_or-set_same before to (Some merged) None lt in
    record {
      others = λ at other. get_or-set_other before to at (Some merged) None other;
      grows = λ callers at m known. elim (cases_eq at to) [
        | inl same ↦ record {
          description = merged;
          there = ap (described (slice_set before to (Some merged))) same ∙ here;
          holds = is.keeps known.description (sym (ap (described before) same) ∙ known.there) callers m known.holds;
        }
        | inr other ↦ record {
          description = known.description;
          there = get_or-set_other before to at (Some merged) None other ∙ known.there;
          holds = known.holds;
        }
      ];
      here = λ callers m holds. record { description = merged; there = here; holds = is.covers callers m holds };
      frames = λ frames new all at e there. elim (cases_eq at to) [
        | inl same ↦
            let e_is : merged ≡ e = same_description merged e (sym here ∙ (sym (ap (described (slice_set before to (Some merged))) same) ∙ there)) in
            ap (λ (x : Description). length x.stack) (sym e_is) ∙ is.frames frames new (λ old was. all to old was)
        | inr other ↦ all at e (sym (get_or-set_other before to at (Some merged) None other) ∙ there)
      ];
    }

-- where nothing was known, what is new is all
pub merged_first : (d : Description) → IsMerged None d d
merged_first d = record {
  covers = λ callers m holds. holds;
  keeps = λ old was. absurd (let bad : None ≡ Some old = was in cc);
  frames = λ frames is all. is;
}

-- the same of what stands there then
pub joined_so : (before : Table) (to : ℕ) (d : Description) (was now : Option Description) → to < length before → was ≡ described before to → IsSome now → IfSome now (IsMerged was d) → HasJoined before to d (slice_set before to now)
joined_so before to d was (Some merged) lt is some known = joined_in before to d merged lt (subst (λ (o : Option Description). IsMerged o d merged) is known)
joined_so before to d was None lt is some known = absurd (let bad : IsSome {T = Description} None = some in cc)

-- at first one entry alone is described
one_none : (place : ℕ) → described (None ∷ []) place ≡ None
one_none zero = refl
one_none (suc place) = refl

-- with a place more to which nothing leads
pub one_place_more : (entry : Description) (len : ℕ) (table : Table) → 1 ≤ len → IsFirstTable len entry table → IsFirstTable (len + 1) entry (table ++ None ∷ [])
one_place_more entry len table some first =
    let nothing : Option Description = None in
    record {
      whole = omega (arith, length-append table (nothing ∷ []), first.whole);
      there = get_or_append_left table (nothing ∷ []) nothing 0 (omega (arith, first.whole, some)) ∙ first.there;
      others = λ place le. elim (cases_lt place len) [
        | inl lt ↦ get_or_append_left table (nothing ∷ []) nothing place (omega (arith, first.whole, lt)) ∙ first.others place le
        | inr past ↦ get_or-append_right table (nothing ∷ []) len place nothing first.whole past ∙ one_none (place - len)
      ];
    }

-- a function is left, and what is known then is known after its call
pub left_on : (saved : SavedRegisters) (d there merged : Description) (before : Option Description) → ((callers : List SavedRegisters) (m m' : MachineState) → Describes (callers ++ saved ∷ []) d m → does m Exit ≡ Some m' → Describes callers there m') → length there.stack + 1 ≡ length d.stack → IsMerged before there merged → HasLeft saved d before (Some merged)
left_on saved d there merged before leaves deep is = record {
  keeps = λ old was. (merged, refl, is.keeps old was);
  leaves = λ outer m m' holds step. (merged, refl, is.covers outer m' (leaves outer m m' holds step));
  frames = λ frames deep_there all now now_is. ap (λ (x : Description). length x.stack) (sym (same_description merged now now_is)) ∙ is.frames frames (omega (arith, deep, deep_there)) all;
}

-- the same of what is known after the call then
pub left_so : (saved : SavedRegisters) (d there : Description) (before now : Option Description) → ((callers : List SavedRegisters) (m m' : MachineState) → Describes (callers ++ saved ∷ []) d m → does m Exit ≡ Some m' → Describes callers there m') → length there.stack + 1 ≡ length d.stack → IsSome now → IfSome now (IsMerged before there) → HasLeft saved d before now
left_so saved d there before (Some merged) leaves deep some known = left_on saved d there merged before leaves deep known
left_so saved d there before None leaves deep some known = absurd (let bad : IsSome {T = Description} None = some in cc)
