-- Lines are refused at one place at most, and then no world has just these lines.
use Rattle.std.proofs.Common.{◌≡◌, ℕ, ◌+◌, ◌-◌, ◌<◌, List, ◌++◌, length, take, drop, inl, inr, ap, sym, ◌∙◌, arith, append_assoc}
use Rattle.std.proofs.Math.Seq.{take-add}
use Rattle.std.proofs.lemmas.Bool.{cases_lt}
use Rattle.std.proofs.lemmas.List.{take-append-drop}
use Rattle.world_calls.specs.declared.carried_line.CarriedLine.{CarriedLine}
use Rattle.world.specs.World.{Setup}
use Rattle.engine_succession.specs.FromLines.{IsFirstFault, NoneIsRefused, OneRefusal}

-- a later place is no first one: a world has the line at the earlier place too
later : (setup : Setup) (xs : List CarriedLine) (one other : ℕ) → IsFirstFault setup xs one → IsFirstFault setup xs other → one < other → ⊥
later setup xs one other first second less =
    let front = second.before in
    let more : ℕ = other - (one + 1) in
    let between : List CarriedLine = take more (drop (one + 1) xs) in
    let sum : other ≡ (one + 1) + more = omega (arith, less) in
    let split : take other xs ≡ take (one + 1) xs ++ between = ap (λ (n : ℕ). take n xs) sum ∙ take-add (one + 1) more xs in
    (first.none front.world front.is).0 (omega (arith, less, second.within)) (between ++ front.rest)
    (front.begins ∙ (ap (λ (l : List CarriedLine). l ++ front.rest) split ∙ append_assoc (take (one + 1) xs) between front.rest))

pub one_refusal : OneRefusal
one_refusal setup xs one other first second = elim (cases_lt one other) [
  | inl less ↦ absurd (later setup xs one other first second less)
  | inr not_less ↦
      elim (cases_lt other one) [
        | inl more ↦ absurd (later setup xs other one second first more)
        | inr not_more ↦ omega (arith, not_less, not_more)
      ]
]

pub none_is_refused : NoneIsRefused
none_is_refused setup xs place refused world is same =
    let none = refused.none world is in
    elim (cases_lt place (length xs)) [
      | inl below ↦ none.0 below (drop (place + 1) xs) (same ∙ sym (take-append-drop (place + 1) xs))
      | inr end ↦ none.1 (omega (arith, end, refused.within)) same
    ]
