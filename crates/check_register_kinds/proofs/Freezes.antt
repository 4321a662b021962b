-- What is held, and which numbers names stand for, where a freeze is taken, is found not to be 0, or is held no more.
use Rattle.std.proofs.Common.{◌≡◌, ℕ, ◌<◌, ◌≤◌, ◌^◌, Bool, true, false, not, eqb, cond, List, [], ◌∷◌, ◌++◌, Option, Some, None, length, refl, ap, sym, subst, ◌∙◌, arith, inl, inr, append_assoc, length-append}
use Rattle.std.specs.Prelude.{if◌then◌else◌}
use Rattle.std.specs.Option.{option_map}
use Rattle.std.proofs.lemmas.Bool.{cases_Bool, cond-true, cond-false, eq-eqb, eqb-false, eqb-true, ne_eqb, not_from_false, not_from_true, or_left, or_right}
use Rattle.std.proofs.lemmas.List.{append-nil}
use Rattle.std.proofs.lemmas.List.Elements.{filter-append}
use Rattle.bpf_semantics.specs.Calls.{is_held}
use Rattle.bpf_semantics.specs.Step.{IsNewFreeze, held_with, held_without}
use Rattle.check_register_kinds.specs.declared.freeze_name.FreezeName.{FreezeName}
use Rattle.check_register_kinds.specs.declared.freeze_name.FreezeName.TheVariants.{Start, Call}
use Rattle.check_register_kinds.specs.declared.held.Certainty.{Certainty}
use Rattle.check_register_kinds.specs.declared.held.Certainty.TheVariants.{Open, Sure}
use Rattle.check_register_kinds.specs.declared.held.HeldFreeze.{HeldFreeze}
use Rattle.check_register_kinds.specs.Freezes.{AreHeld, FreezeNumbers, IsNumbered, certainty_of, is_name, made_sure, number_held, numbers_at_start, numbers_held, open_freeze, renumbered, with_sure, without}

-- names

pub same_name : (a b : FreezeName) → is_name a b ≡ true → a ≡ b
same_name Start Start e = refl
same_name Start (Call place) e = absurd (let bad : false ≡ true = e in cc)
same_name (Call place) Start e = absurd (let bad : false ≡ true = e in cc)
same_name (Call place) (Call other) e = ap Call (eqb-true place other e)

pub own_name : (a : FreezeName) → is_name a a ≡ true
own_name Start = refl
own_name (Call place) = eq-eqb place place refl

pub name_same : (a b : FreezeName) → a ≡ b → is_name a b ≡ true
name_same a b e = subst (λ (n : FreezeName). is_name a n ≡ true) e (own_name a)

not_both : (b : Bool) → b ≡ true → b ≡ false → ⊥
not_both b is is_not = absurd (let bad : true ≡ false = sym is ∙ is_not in cc)

pub name_other : (a b : FreezeName) → (a ≡ b → ⊥) → is_name a b ≡ false
name_other a b apart = elim (cases_Bool (is_name a b)) [ inl same ↦ absurd (apart (same_name a b same)) | inr other ↦ other ]

-- a third name
name_apart : (a b other : FreezeName) → is_name a b ≡ true → is_name other b ≡ false → is_name a other ≡ false
name_apart a b other same apart = name_other a other (λ e. not_both (is_name other b) (subst (λ (n : FreezeName). is_name n b ≡ true) e same) apart)

turned : (a b : FreezeName) → is_name a b ≡ false → is_name b a ≡ false
turned a b apart = name_other b a (λ e. not_both (is_name a b) (name_same a b (sym e)) apart)

-- what is known of the first of those that are held

certainty_here : (f : HeldFreeze) (fs : List HeldFreeze) (name : FreezeName) → is_name f.name name ≡ true → certainty_of (f ∷ fs) name ≡ Some f.certainty
certainty_here f fs name same = ap (option_map (λ (g : HeldFreeze). g.certainty)) (cond-true (is_name f.name name) _ _ same)

certainty_behind : (f : HeldFreeze) (fs : List HeldFreeze) (name : FreezeName) → is_name f.name name ≡ false → certainty_of (f ∷ fs) name ≡ certainty_of fs name
certainty_behind f fs name other = ap (option_map (λ (g : HeldFreeze). g.certainty)) (cond-false (is_name f.name name) _ _ other)

without_first : (f : HeldFreeze) (fs : List HeldFreeze) (name : FreezeName) → is_name f.name name ≡ true → without (f ∷ fs) name ≡ without fs name
without_first f fs name same = cond-false (not (is_name f.name name)) _ _ (not_from_true (is_name f.name name) same)

first_kept : (f : HeldFreeze) (fs : List HeldFreeze) (name : FreezeName) → is_name f.name name ≡ false → without (f ∷ fs) name ≡ f ∷ without fs name
first_kept f fs name other = cond-true (not (is_name f.name name)) _ _ (not_from_false (is_name f.name name) other)

-- without one

certainty_gone : (held : List HeldFreeze) (name : FreezeName) → certainty_of (without held name) name ≡ None
certainty_gone [] name = refl
certainty_gone (f ∷ fs) name =
    elim (cases_Bool (is_name f.name name)) [
      | inl same ↦ ap (λ (l : List HeldFreeze). certainty_of l name) (without_first f fs name same) ∙ certainty_gone fs name
      | inr other ↦
          ap (λ (l : List HeldFreeze). certainty_of l name) (first_kept f fs name other)
          ∙ (certainty_behind f (without fs name) name other ∙ certainty_gone fs name)
    ]

certainty_left : (held : List HeldFreeze) (name other : FreezeName) → is_name other name ≡ false → certainty_of (without held name) other ≡ certainty_of held other
certainty_left [] name other apart = refl
certainty_left (f ∷ fs) name other apart =
    elim (cases_Bool (is_name f.name name)) [
      | inl same ↦
          ap (λ (l : List HeldFreeze). certainty_of l other) (without_first f fs name same)
          ∙ (certainty_left fs name other apart ∙ sym (certainty_behind f fs other (name_apart f.name name other same apart)))
      | inr kept ↦
          ap (λ (l : List HeldFreeze). certainty_of l other) (first_kept f fs name kept)
          ∙ elim (cases_Bool (is_name f.name other)) [
            | inl here ↦ certainty_here f (without fs name) other here ∙ sym (certainty_here f fs other here)
            | inr behind ↦ certainty_behind f (without fs name) other behind ∙ (certainty_left fs name other apart ∙ sym (certainty_behind f fs other behind))
          ]
    ]

-- where one is sure

name_kept : (f : HeldFreeze) (name : FreezeName) → (made_sure name f).name ≡ f.name
name_kept f name =
    elim (cases_Bool (is_name f.name name)) [
      | inl same ↦ ap (λ (g : HeldFreeze). g.name) (cond-true (is_name f.name name) (record f { certainty = Sure }) f same)
      | inr other ↦ ap (λ (g : HeldFreeze). g.name) (cond-false (is_name f.name name) (record f { certainty = Sure }) f other)
    ]

certainty_made : (f : HeldFreeze) (name : FreezeName) → (made_sure name f).certainty ≡ cond (is_name f.name name) Sure f.certainty
certainty_made f name =
    elim (cases_Bool (is_name f.name name)) [
      | inl same ↦ ap (λ (g : HeldFreeze). g.certainty) (cond-true (is_name f.name name) (record f { certainty = Sure }) f same) ∙ sym (cond-true (is_name f.name name) Sure f.certainty same)
      | inr other ↦ ap (λ (g : HeldFreeze). g.certainty) (cond-false (is_name f.name name) (record f { certainty = Sure }) f other) ∙ sym (cond-false (is_name f.name name) Sure f.certainty other)
    ]

-- how sure that freeze is then
abbrev sure_where : Bool → Option Certainty → Option Certainty
sure_where same o = option_map (λ certainty. if same then Sure else certainty) o

certainty_sure : (held : List HeldFreeze) (name other : FreezeName) → certainty_of (with_sure held name) other ≡ sure_where (is_name other name) (certainty_of held other)
certainty_sure [] name other = refl
certainty_sure (f ∷ fs) name other =
    elim (cases_Bool (is_name f.name other)) [
      | inl here ↦
          certainty_here (made_sure name f) (with_sure fs name) other (subst (λ (n : FreezeName). is_name n other ≡ true) (sym (name_kept f name)) here)
          ∙ (ap Some (certainty_made f name ∙ ap (λ (n : FreezeName). cond (is_name n name) Sure f.certainty) (same_name f.name other here))
          ∙ sym (ap (sure_where (is_name other name)) (certainty_here f fs other here)))
      | inr behind ↦
          certainty_behind (made_sure name f) (with_sure fs name) other (subst (λ (n : FreezeName). is_name n other ≡ false) (sym (name_kept f name)) behind)
          ∙ (certainty_sure fs name other ∙ sym (ap (sure_where (is_name other name)) (certainty_behind f fs other behind)))
    ]

-- with one more, which comes last

certainty_last : (held : List HeldFreeze) (name : FreezeName) → certainty_of held name ≡ None → certainty_of (held ++ open_freeze name ∷ []) name ≡ Some Open
certainty_last [] name fresh = certainty_here (open_freeze name) [] name (own_name name)
certainty_last (f ∷ fs) name fresh =
    elim (cases_Bool (is_name f.name name)) [
      | inl here ↦ absurd (let bad : Some f.certainty ≡ None = sym (certainty_here f fs name here) ∙ fresh in cc)
      | inr behind ↦ certainty_behind f (fs ++ open_freeze name ∷ []) name behind ∙ certainty_last fs name (sym (certainty_behind f fs name behind) ∙ fresh)
    ]

certainty_before : (held : List HeldFreeze) (name other : FreezeName) → is_name other name ≡ false → certainty_of (held ++ open_freeze name ∷ []) other ≡ certainty_of held other
certainty_before [] name other apart = certainty_behind (open_freeze name) [] other (turned other name apart)
certainty_before (f ∷ fs) name other apart =
    elim (cases_Bool (is_name f.name other)) [
      | inl here ↦ certainty_here f (fs ++ open_freeze name ∷ []) other here ∙ sym (certainty_here f fs other here)
      | inr behind ↦ certainty_behind f (fs ++ open_freeze name ∷ []) other behind ∙ (certainty_before fs name other apart ∙ sym (certainty_behind f fs other behind))
    ]

-- their numbers

pub renumbered_here : (numbers : FreezeNumbers) (name other : FreezeName) (o : Option ℕ) → is_name other name ≡ true → renumbered numbers name o other ≡ o
renumbered_here numbers name other o same = cond-true (is_name other name) o (numbers other) same

pub renumbered_other : (numbers : FreezeNumbers) (name other : FreezeName) (o : Option ℕ) → is_name other name ≡ false → renumbered numbers name o other ≡ numbers other
renumbered_other numbers name other o apart = cond-false (is_name other name) o (numbers other) apart

numbers_sure : (numbers : FreezeNumbers) (held : List HeldFreeze) (name : FreezeName) → numbers_held numbers (with_sure held name) ≡ numbers_held numbers held
numbers_sure numbers [] name = refl
numbers_sure numbers (f ∷ fs) name = λ i. number_held (numbers (name_kept f name i)) ++ numbers_sure numbers fs name i

-- a freeze's own number is taken out, and other numbers are kept
own_out : (number : ℕ) → held_without (number_held (Some number)) number ≡ []
own_out number =
    elim (cases_Bool (eqb number 0)) [
      | inl is_zero ↦ ap (λ (l : List ℕ). held_without l number) (cond-true (eqb number 0) [] (number ∷ []) is_zero)
      | inr some ↦
          ap (λ (l : List ℕ). held_without l number) (cond-false (eqb number 0) [] (number ∷ []) some)
          ∙ cond-false (not (eqb number number)) (number ∷ []) [] (not_from_true (eqb number number) (eq-eqb number number refl))
    ]

other_kept : (o : Option ℕ) (number : ℕ) → (o ≡ Some number → 0 < number → ⊥) → held_without (number_held o) number ≡ number_held o
other_kept None number apart = refl
other_kept (Some other) number apart =
    elim (cases_Bool (eqb other 0)) [
      | inl is_zero ↦
          let none : number_held (Some other) ≡ [] = cond-true (eqb other 0) [] (other ∷ []) is_zero in
          ap (λ (l : List ℕ). held_without l number) none ∙ sym none
      | inr some ↦
          let one : number_held (Some other) ≡ other ∷ [] = cond-false (eqb other 0) [] (other ∷ []) some in
          let not_0 : other ≡ 0 → ⊥ = eqb-false other 0 some in
          let differs : eqb other number ≡ false = ne_eqb other number (λ e. apart (ap Some e) (omega (arith, e, not_0))) in
          ap (λ (l : List ℕ). held_without l number) one
          ∙ (cond-true (not (eqb other number)) (other ∷ []) [] (not_from_false (eqb other number) differs) ∙ sym one)
    ]

numbers_without : (numbers : FreezeNumbers) (held : List HeldFreeze) (name : FreezeName) (number : ℕ) → numbers name ≡ Some number → ((other : FreezeName) → 0 < number → numbers other ≡ Some number → other ≡ name)
    → held_without (numbers_held numbers held) number ≡ numbers_held (renumbered numbers name None) (without held name)
numbers_without numbers [] name number is only = refl
numbers_without numbers (f ∷ fs) name number is only =
    let behind = numbers_without numbers fs name number is only in
    filter-append (λ (k : ℕ). not (eqb k number)) (number_held (numbers f.name)) (numbers_held numbers fs)
    ∙ elim (cases_Bool (is_name f.name name)) [
      | inl same ↦
          let its : numbers f.name ≡ Some number = ap numbers (same_name f.name name same) ∙ is in
          let out : held_without (number_held (numbers f.name)) number ≡ [] = ap (λ (o : Option ℕ). held_without (number_held o) number) its ∙ own_out number in
          ap (λ (l : List ℕ). l ++ held_without (numbers_held numbers fs) number) out
          ∙ (behind ∙ sym (ap (numbers_held (renumbered numbers name None)) (without_first f fs name same)))
      | inr other ↦
          let apart = λ (e : numbers f.name ≡ Some number) (some : 0 < number). not_both (is_name f.name name) (name_same f.name name (only f.name some e)) other in
          let kept : held_without (number_held (numbers f.name)) number ≡ number_held (renumbered numbers name None f.name) = other_kept (numbers f.name) number apart ∙ ap number_held (sym (renumbered_other numbers name f.name None other)) in
          let both : held_without (number_held (numbers f.name)) number ++ held_without (numbers_held numbers fs) number ≡ numbers_held (renumbered numbers name None) (f ∷ without fs name) = λ i. kept i ++ behind i in
          both ∙ sym (ap (numbers_held (renumbered numbers name None)) (first_kept f fs name other))
    ]

numbers_fresh : (numbers : FreezeNumbers) (held : List HeldFreeze) (name : FreezeName) (o : Option ℕ) → certainty_of held name ≡ None → numbers_held (renumbered numbers name o) held ≡ numbers_held numbers held
numbers_fresh numbers [] name o fresh = refl
numbers_fresh numbers (f ∷ fs) name o fresh =
    elim (cases_Bool (is_name f.name name)) [
      | inl here ↦ absurd (let bad : Some f.certainty ≡ None = sym (certainty_here f fs name here) ∙ fresh in cc)
      | inr behind ↦
          let rest = numbers_fresh numbers fs name o (sym (certainty_behind f fs name behind) ∙ fresh) in
          λ i. number_held (renumbered_other numbers name f.name o behind i) ++ rest i
    ]

numbers_last : (numbers : FreezeNumbers) (held : List HeldFreeze) (f : HeldFreeze) (number : ℕ) → numbers f.name ≡ Some number → held_with (numbers_held numbers held) number ≡ numbers_held numbers (held ++ f ∷ [])
numbers_last numbers held f number is = with_last (numbers_held numbers held) ∙ behind held
  where
    with_last : (l : List ℕ) → held_with l number ≡ l ++ (number_held (numbers f.name) ++ [])
    with_last l =
        elim (cases_Bool (eqb number 0)) [
          | inl is_zero ↦
              let none : number_held (numbers f.name) ≡ [] = ap number_held is ∙ cond-true (eqb number 0) [] (number ∷ []) is_zero in
              cond-true (eqb number 0) l (l ++ number ∷ []) is_zero ∙ (sym (append-nil l) ∙ ap (λ (k : List ℕ). l ++ (k ++ [])) (sym none))
          | inr some ↦
              let one : number_held (numbers f.name) ≡ number ∷ [] = ap number_held is ∙ cond-false (eqb number 0) [] (number ∷ []) some in
              cond-false (eqb number 0) l (l ++ number ∷ []) some ∙ ap (λ (k : List ℕ). l ++ (k ++ [])) (sym one)
        ]

    behind : (held : List HeldFreeze) → numbers_held numbers held ++ (number_held (numbers f.name) ++ []) ≡ numbers_held numbers (held ++ f ∷ [])
    behind [] = refl
    behind (g ∷ gs) = append_assoc (number_held (numbers g.name)) (numbers_held numbers gs) (number_held (numbers f.name) ++ []) ∙ ap (λ (l : List ℕ). number_held (numbers g.name) ++ l) (behind gs)

any_behind : (number : ℕ) (front rest : List ℕ) → is_held rest number ≡ true → is_held (front ++ rest) number ≡ true
any_behind number [] rest there = there
any_behind number (k ∷ ks) rest there = or_right (eqb k number) (is_held (ks ++ rest) number) (any_behind number ks rest there)

held_found : (numbers : FreezeNumbers) (held : List HeldFreeze) (name : FreezeName) (certainty : Certainty) (number : ℕ) → certainty_of held name ≡ Some certainty → numbers name ≡ Some number → 0 < number → is_held (numbers_held numbers held) number ≡ true
held_found numbers [] name certainty number known is some = absurd (let bad : None ≡ Some certainty = known in cc)
held_found numbers (f ∷ fs) name certainty number known is some =
    elim (cases_Bool (is_name f.name name)) [
      | inl here ↦
          let its : numbers f.name ≡ Some number = ap numbers (same_name f.name name here) ∙ is in
          let not_0 : eqb number 0 ≡ false = ne_eqb number 0 (λ e. absurd (omega (arith, e, some))) in
          let one : number_held (numbers f.name) ≡ number ∷ [] = ap number_held its ∙ cond-false (eqb number 0) [] (number ∷ []) not_0 in
          ap (λ (l : List ℕ). is_held (l ++ numbers_held numbers fs) number) one ∙ or_left (eqb number number) (is_held (numbers_held numbers fs) number) (eq-eqb number number refl)
      | inr behind ↦ any_behind number (number_held (numbers f.name)) (numbers_held numbers fs) (held_found numbers fs name certainty number (sym (certainty_behind f fs name behind) ∙ known) is some)
    ]

one_at_most : (o : Option ℕ) → length (number_held o) ≤ 1
one_at_most None = omega arith
one_at_most (Some number) = at_most (eqb number 0)
  where
    at_most : (b : Bool) → length (cond b [] (number ∷ [])) ≤ 1
    at_most true = omega arith
    at_most false = omega arith

few_numbers : (numbers : FreezeNumbers) (held : List HeldFreeze) → length (numbers_held numbers held) ≤ length held
few_numbers numbers [] = omega arith
few_numbers numbers (f ∷ fs) = omega (arith, length-append (number_held (numbers f.name)) (numbers_held numbers fs), one_at_most (numbers f.name), few_numbers numbers fs)

-- what is held, by names and by numbers

-- a freeze was found not to be 0
pub held_sure : (numbers : FreezeNumbers) (held : List HeldFreeze) (run : List ℕ) (name : FreezeName) (number : ℕ) → AreHeld numbers held run → numbers name ≡ Some number → 0 < number → AreHeld numbers (with_sure held name) run
held_sure numbers held run name number is its some = record {
  known = λ other. subst (λ (o : Option Certainty). IsNumbered o (numbers other)) (sym (certainty_sure held name other))
      (sure_numbered other (is_name other name) refl (certainty_of held other) (is.known other));
  apart = is.apart;
  are = is.are ∙ sym (numbers_sure numbers held name);
}
  where
    sure_numbered : (other : FreezeName) (b : Bool) → is_name other name ≡ b → (o : Option Certainty) → IsNumbered o (numbers other) → IsNumbered (sure_where b o) (numbers other)
    sure_numbered other true same None known = known
    sure_numbered other true same (Some certainty) known = (number, ap numbers (same_name other name same) ∙ its, some, number_small)
      where
        number_small : number < 2 ^ 32
        number_small =
            let e : Some known.0 ≡ Some number = sym known.1 ∙ (ap numbers (same_name other name same) ∙ its) in
            let k : known.0 ≡ number = cc in
            omega (arith, k, known.3)
    sure_numbered other false same None known = known
    sure_numbered other false same (Some certainty) known = known

-- a freeze is held no more
pub held_given_up : (numbers : FreezeNumbers) (held : List HeldFreeze) (run : List ℕ) (name : FreezeName) (number : ℕ) → AreHeld numbers held run → numbers name ≡ Some number
    → AreHeld (renumbered numbers name None) (without held name) (held_without run number)
held_given_up numbers held run name number is its = record {
  known = λ other. elim (cases_Bool (is_name other name)) [
    | inl same ↦
        let gone : certainty_of (without held name) other ≡ None = ap (certainty_of (without held name)) (same_name other name same) ∙ certainty_gone held name in
        subst (λ (o : Option Certainty). IsNumbered o (renumbered numbers name None other)) (sym gone) (renumbered_here numbers name other None same)
    | inr apart ↦
        subst (λ (o : Option Certainty). IsNumbered o (renumbered numbers name None other)) (sym (certainty_left held name other apart))
        (subst (IsNumbered (certainty_of held other)) (sym (renumbered_other numbers name other None apart)) (is.known other))
  ];
  apart = λ a b n some first second. is.apart a b n some (before a n first) (before b n second);
  are = ap (λ (l : List ℕ). held_without l number) is.are ∙ numbers_without numbers held name number its (λ other some e. is.apart other name number some e its);
}
  where
    before : (a : FreezeName) (n : ℕ) → renumbered numbers name None a ≡ Some n → numbers a ≡ Some n
    before a n e =
        elim (cases_Bool (is_name a name)) [
          | inl same ↦ absurd (let bad : None ≡ Some n = sym (renumbered_here numbers name a None same) ∙ e in cc)
          | inr apart ↦ sym (renumbered_other numbers name a None apart) ∙ e
        ]

-- its number is among those that the run holds
pub number_is_held : (numbers : FreezeNumbers) (held : List HeldFreeze) (run : List ℕ) (name : FreezeName) (number : ℕ) → AreHeld numbers held run → numbers name ≡ Some number → 0 < number → is_held run number ≡ true
number_is_held numbers held run name number is its some = ap (λ (l : List ℕ). is_held l number) is.are ∙ of_known (certainty_of held name) refl (is.known name)
  where
    of_known : (o : Option Certainty) → certainty_of held name ≡ o → IsNumbered o (numbers name) → is_held (numbers_held numbers held) number ≡ true
    of_known None e known = absurd (let bad : None ≡ Some number = sym known ∙ its in cc)
    of_known (Some certainty) e known = held_found numbers held name certainty number e its some

-- a freeze was taken, or none was got
pub held_taken : (numbers : FreezeNumbers) (held : List HeldFreeze) (run : List ℕ) (name : FreezeName) (number : ℕ) → AreHeld numbers held run → certainty_of held name ≡ None → IsNewFreeze run number
    → AreHeld (renumbered numbers name (Some number)) (held ++ open_freeze name ∷ []) (held_with run number)
held_taken numbers held run name number is fresh new = record {
  known = λ other. elim (cases_Bool (is_name other name)) [
    | inl same ↦
        let last : certainty_of (held ++ open_freeze name ∷ []) other ≡ Some Open = ap (certainty_of (held ++ open_freeze name ∷ [])) (same_name other name same) ∙ certainty_last held name fresh in
        subst (λ (o : Option Certainty). IsNumbered o (renumbered numbers name (Some number) other)) (sym last)
        (number, renumbered_here numbers name other (Some number) same, tt, small new)
    | inr apart ↦
        subst (λ (o : Option Certainty). IsNumbered o (renumbered numbers name (Some number) other)) (sym (certainty_before held name other apart))
        (subst (IsNumbered (certainty_of held other)) (sym (renumbered_other numbers name other (Some number) apart)) (is.known other))
  ];
  apart = λ a b n some first second. elim (cases_Bool (is_name a name)) [
    | inl here ↦ elim (cases_Bool (is_name b name)) [
      | inl there ↦ same_name a name here ∙ sym (same_name b name there)
      | inr other ↦ absurd (not_taken b n some (before a n first here) (sym (renumbered_other numbers name b (Some number) other) ∙ second))
    ]
    | inr other ↦ elim (cases_Bool (is_name b name)) [
      | inl there ↦ absurd (not_taken a n some (before b n second there) (sym (renumbered_other numbers name a (Some number) other) ∙ first))
      | inr another ↦ is.apart a b n some (sym (renumbered_other numbers name a (Some number) other) ∙ first) (sym (renumbered_other numbers name b (Some number) another) ∙ second)
    ]
  ];
  are =
      ap (λ (l : List ℕ). held_with l number) (is.are ∙ sym (numbers_fresh numbers held name (Some number) fresh))
      ∙ numbers_last (renumbered numbers name (Some number)) held (open_freeze name) number (renumbered_here numbers name name (Some number) (own_name name));
}
  where
    small : IsNewFreeze run number → number < 2 ^ 32
    small (inl none) = omega (arith, none)
    small (inr some) = some.1

    before : (a : FreezeName) (n : ℕ) → renumbered numbers name (Some number) a ≡ Some n → is_name a name ≡ true → number ≡ n
    before a n e same = let both : Some number ≡ Some n = sym (renumbered_here numbers name a (Some number) same) ∙ e in cc

    -- a number that is held is not given again
    not_taken : (other : FreezeName) (n : ℕ) → 0 < n → number ≡ n → numbers other ≡ Some n → ⊥
    not_taken other n some e its = of_new new
      where
        of_new : IsNewFreeze run number → ⊥
        of_new (inl none) = absurd (omega (arith, none, e, some))
        of_new (inr given) =
            let there : is_held run n ≡ true = number_is_held numbers held run other n is its some in
            not_both (is_held run n) there (subst (λ (k : ℕ). is_held run k ≡ false) e given.2)

-- no more numbers than names
pub few_held : (numbers : FreezeNumbers) (held : List HeldFreeze) (run : List ℕ) → AreHeld numbers held run → length run ≤ length held
few_held numbers held run is = omega (arith, ap length is.are, few_numbers numbers held)

-- a number from 1 to 2 ^ 32 - 1 is what a freeze that is sure has
pub sure_number : (numbers : FreezeNumbers) (held : List HeldFreeze) (run : List ℕ) (name : FreezeName) (number : ℕ) → AreHeld numbers held run → certainty_of held name ≡ Some Sure → numbers name ≡ Some number → (0 < number) × (number < 2 ^ 32)
sure_number numbers held run name number is sure its =
    let known = subst (λ (o : Option Certainty). IsNumbered o (numbers name)) sure (is.known name) in
    let e : Some known.0 ≡ Some number = sym known.1 ∙ its in
    let k : known.0 ≡ number = cc in
    (omega (arith, k, known.2), omega (arith, k, known.3))

-- at a run's start
pub held_at_start : (freeze : ℕ) → freeze < 2 ^ 32 → AreHeld (numbers_at_start freeze) (open_freeze Start ∷ []) (if eqb freeze 0 then [] else freeze ∷ [])
held_at_start freeze small = record {
  known = known;
  apart = apart;
  are = sym (append-nil (cond (eqb freeze 0) [] (freeze ∷ [])));
}
  where
    known : (name : FreezeName) → IsNumbered (certainty_of (open_freeze Start ∷ []) name) (numbers_at_start freeze name)
    known Start = (freeze, refl, tt, small)
    known (Call place) = refl

    apart : (a b : FreezeName) (number : ℕ) → 0 < number → numbers_at_start freeze a ≡ Some number → numbers_at_start freeze b ≡ Some number → a ≡ b
    apart Start Start number some first second = refl
    apart Start (Call place) number some first second = absurd (let bad : None ≡ Some number = second in cc)
    apart (Call place) b number some first second = absurd (let bad : None ≡ Some number = first in cc)

-- no freeze that the run holds is 0
pub without_zero : (numbers : FreezeNumbers) (held : List HeldFreeze) (run : List ℕ) → AreHeld numbers held run → held_without run 0 ≡ run
without_zero numbers held run is = ap (λ (l : List ℕ). held_without l 0) is.are ∙ (all_kept held ∙ sym is.are)
  where
    all_kept : (held : List HeldFreeze) → held_without (numbers_held numbers held) 0 ≡ numbers_held numbers held
    all_kept [] = refl
    all_kept (f ∷ fs) =
        let first : held_without (number_held (numbers f.name)) 0 ≡ number_held (numbers f.name) = other_kept (numbers f.name) 0 (λ e some. absurd (omega (arith, some))) in
        let both : held_without (number_held (numbers f.name)) 0 ++ held_without (numbers_held numbers fs) 0 ≡ numbers_held numbers (f ∷ fs) = λ i. first i ++ all_kept fs i in
        filter-append (λ (k : ℕ). not (eqb k 0)) (number_held (numbers f.name)) (numbers_held numbers fs) ∙ both

-- a name that is not held stands for no number
pub no_number : (numbers : FreezeNumbers) (held : List HeldFreeze) (run : List ℕ) (name : FreezeName) → AreHeld numbers held run → certainty_of held name ≡ None → numbers name ≡ None
no_number numbers held run name is fresh = subst (λ (o : Option Certainty). IsNumbered o (numbers name)) fresh (is.known name)

-- a freeze's number is below 2 ^ 32
pub number_small : (numbers : FreezeNumbers) (held : List HeldFreeze) (run : List ℕ) (name : FreezeName) (number : ℕ) → AreHeld numbers held run → numbers name ≡ Some number → number < 2 ^ 32
number_small numbers held run name number is its = of_known (certainty_of held name) (is.known name)
  where
    of_known : (o : Option Certainty) → IsNumbered o (numbers name) → number < 2 ^ 32
    of_known None known = absurd (let bad : None ≡ Some number = sym known ∙ its in cc)
    of_known (Some certainty) known =
        let e : Some known.0 ≡ Some number = sym known.1 ∙ its in
        let k : known.0 ≡ number = cc in
        omega (arith, k, known.3)
