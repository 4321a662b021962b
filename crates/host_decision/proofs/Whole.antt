-- A whole run: its beginning, its failure, and its advances.
use Rattle.std.proofs.Common.{◌≡◌, ℕ, ◌+◌, List, [], ◌∷◌, ◌++◌, Bool, true, false, refl, ap, subst, sym, ◌∙◌, arith}
use Rattle.std.specs.Prelude.{sum_by}
use Rattle.std.proofs.lemmas.List.Sums.{sum_by-append, sum_by_push}
use Rattle.ccb.specs.Completion.{Outcome}
use Rattle.world_calls.specs.declared.carried_line.CarriedLine.{CarriedLine}
use Rattle.world_calls.specs.declared.record.Record.{Record}
use Rattle.world.specs.Lawful.{IsLawful}
use Rattle.world.specs.Laws.Headline.{WithinBudget}
use Rattle.world.specs.World.{Setup}
use Rattle.host_decision.specs.Ran.{AreOfRun, IsAtEnd, IsLedTo, failed, instructions_of}
use Rattle.host_decision.specs.Steps.{HasFailed, IsFresh, RanOn}
use Rattle.host_decision.specs.declared.ran.Ran.{Ran}
use Rattle.host_decision.proofs.Leading.{led_on}
use Rattle.host_decision.proofs.TooMany.{too_many}

module _ (config : Setup) (lines : List CarriedLine) (outcome : Outcome) (start mid : Ran) (fresh : IsFresh config lines start) (fails : HasFailed start outcome mid) where
  abbrev first : Record
  first = failed outcome mid.run mid.freeze

  mid_records : mid.records.items ≡ first ∷ []
  mid_records = fails.records ∙ ap (λ (rs : List Record). rs ++ first ∷ []) fresh.none

  pub no_instructions : mid.instructions ≡ 0
  no_instructions = fails.instructions ∙ fresh.instructions

  mid_led : IsLedTo config lines (first ∷ []) mid.engine
  mid_led = led_on config lines [] (first ∷ []) start.engine mid.engine fresh.led fails.follows fails.setup_is

  module _ (ended : Bool) (new : Ran) (it : RanOn ended mid new) where
    new_records : new.records.items ≡ first ∷ it.advances
    new_records = it.ran_by.records ∙ ap (λ (rs : List Record). rs ++ it.advances) mid_records

    new_led : IsLedTo config lines (first ∷ it.advances) new.engine
    new_led = led_on config lines (first ∷ []) it.advances mid.engine new.engine mid_led it.ran_by.lead it.ran_by.setup_is

    pub whole_led : IsLedTo config lines new.records.items new.engine
    whole_led = subst (λ (rs : List Record). IsLedTo config lines rs new.engine) (sym new_records) new_led

    pub whole_records : AreOfRun outcome new.run new.freeze new.records.items
    whole_records = subst (λ (run : ℕ). AreOfRun outcome run new.freeze new.records.items) (sym it.ran_by.run)
        (subst (λ (freeze : ℕ). AreOfRun outcome mid.run freeze new.records.items) (sym it.ran_by.freeze) (record { advances = it.advances; first = new_records; are = it.ran_by.are }))

    pub whole_instructions : new.instructions ≡ sum_by instructions_of new.records.items
    whole_instructions =
        let none : sum_by instructions_of [] ≡ 0 = refl in
        let first_is : instructions_of first ≡ 0 = refl in
        omega (
          arith,
          it.ran_by.instructions,
          no_instructions,
          none,
          first_is,
          sum_by_push instructions_of [] first,
          sum_by-append instructions_of (first ∷ []) it.advances,
          ap (sum_by instructions_of) new_records,
        )

  pub whole_ended : (new : Ran) → RanOn true mid new → IsAtEnd new.engine new.run
  whole_ended new it = subst (λ (run : ℕ). IsAtEnd new.engine run) (sym it.ran_by.run) it.end_is

  pub no_end : (new : Ran) → WithinBudget → IsLawful config → RanOn false mid new → ⊥
  no_end new within lawful it = too_many config lines outcome mid.run mid.freeze it.advances new.engine within lawful (new_led false new it) it.ran_by.are it.end_is
