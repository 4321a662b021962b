-- The refusals of a call: the first that holds is told, with the world as it was; where none holds, the call does what it does.
use Rattle.std.proofs.Common.{◌≡◌, ◌==◌, Bool, false, cond, List, [], ◌∷◌, Option, Some, inl, inr, refl, sym, ◌∙◌}
use Rattle.std.specs.Prelude.{◌⊎◌}
use Rattle.std.proofs.lemmas.Bool.{cases_Bool, cond-true, cond-false}
use Rattle.ccb.specs.declared.call_refusal.CallRefusal.{CallRefusal}
use Rattle.ccb.specs.contracts.call_refusal.CallRefusal as refusal
use Rattle.world.specs.World.{World}
use Rattle.world.specs.Event.{Reply, refused}
use Rattle.world.specs.Refusals.{unless_refused}
use Rattle.world_laws.proofs.Steps.Running.{some_is}
use denote.Enum.Declared.{tag_of}

-- none of them holds
abbrev pub NoneHolds : List (Bool × CallRefusal) → Type 0
NoneHolds [] = Unit {0}
NoneHolds (x ∷ xs) = (x.0 ≡ false) × NoneHolds xs

-- the test of a name, the first one that has it
abbrev pub test_of : CallRefusal → List (Bool × CallRefusal) → Bool
test_of name [] = false
test_of name (x ∷ xs) = cond (tag_of refusal.the_type x.1 == tag_of refusal.the_type name) x.0 (test_of name xs)

-- it does not hold, wherever it stands
pub none_of : (name : CallRefusal) (xs : List (Bool × CallRefusal)) → NoneHolds xs → test_of name xs ≡ false
none_of name [] none = refl
none_of name (x ∷ xs) none =
    elim (cases_Bool (tag_of refusal.the_type x.1 == tag_of refusal.the_type name)) [
      | inl its ↦ cond-true _ _ _ its ∙ none.0
      | inr other ↦ cond-false _ _ _ other ∙ none_of name xs none.1
    ]

-- the call is refused
pub record IsRefused (before : World) (reply : Reply) (after : World) : Type 0 where
  pub refusal : CallRefusal
  pub is : ◌≡◌ {A = Reply × World} (reply, after) (refused refusal, before)

pub by_refusals : (xs : List (Bool × CallRefusal)) (world : World) (otherwise : Option (Reply × World)) (reply : Reply) (after : World) → unless_refused xs world otherwise ≡ Some (reply, after) → IsRefused world reply after ⊎ (NoneHolds xs × (otherwise ≡ Some (reply, after)))
by_refusals [] world otherwise reply after e = inr (tt, e)
by_refusals (x ∷ xs) world otherwise reply after e =
    elim (cases_Bool x.0) [
      | inl holds ↦ inl (record { refusal = x.1; is = some_is _ _ (sym (cond-true x.0 _ _ holds) ∙ e) })
      | inr fails ↦
          elim (by_refusals xs world otherwise reply after (sym (cond-false x.0 _ _ fails) ∙ e)) [
            | inl it ↦ inl it
            | inr goes ↦ inr ((fails, goes.0), goes.1)
          ]
    ]
