-- A run that goes on advance by advance.
use Rattle.std.proofs.Common.{◌≡◌, ℕ, zero, suc, get_or, ◌+◌, ◌*◌, ◌<◌, ◌≤◌, ◌^◌, List, [], ◌∷◌, ◌++◌, true, false, length, length-append, append-nil, append_assoc, refl, ap, sym, subst, ◌∙◌, arith}
use Rattle.std.specs.Prelude.{All, sum_by}
use Rattle.std.proofs.lemmas.List.Elements.{All-append}
use Rattle.std.proofs.lemmas.List.Sums.{sum_by_push}
use Rattle.world_calls.specs.declared.record.Record.{Record}
use Rattle.engine_core.specs.ByNumber.{IsAdvanceOf, IsBehind, NumberedState}
use Rattle.host_decision.specs.Ran.{IsAtEnd, instructions_of}
use Rattle.host_decision.specs.Steps.{Lead, NoMore, OneMore, RanBy, RanOn}
use Rattle.host_decision.specs.declared.ran.Ran.{Ran}
use Rattle.host_decision.specs.declared.ran.TheConstants.{MORE_STOPS}

-- so many advances were made
pub record SoFar (count : ℕ) (old new : Ran) : Type 0 where
  pub advances : List Record
  pub ran_by : RanBy advances old new
  pub counted : length advances ≡ count
  pub bound : new.instructions ≤ old.instructions + count * 4294967296

pub none_yet : (old : Ran) → SoFar 0 old old
none_yet old = record {
  advances = [];
  ran_by = record {
    are = λ k d below. absurd (omega (arith, below));
    lead = λ records behind. subst (λ (rs : List Record). IsBehind rs old.engine) (sym (append-nil records)) behind;
    setup_is = refl;
    run = refl;
    freeze = refl;
    records = sym (append-nil old.records.items);
    instructions = omega arith;
  };
  counted = refl;
  bound = omega arith;
}

one_all : (run : ℕ) (told : Record) → IsAdvanceOf run told → All (IsAdvanceOf run) (told ∷ [])
one_all run told is = λ k d below. here k d below
  where
    here : (k : ℕ) (d : Record) → k < 1 → IsAdvanceOf run (get_or (told ∷ []) k d)
    here zero d below = is
    here (suc k) d below = absurd (omega (arith, below))

pub one_more : (count : ℕ) (old between new : Ran) → SoFar count old between → OneMore between new → SoFar (count + 1) old new
one_more count old between new far it =
    let by = far.ran_by in
    let is : IsAdvanceOf old.run it.told = subst (λ (run : ℕ). IsAdvanceOf run it.told) by.run it.is in
    record {
      advances = far.advances ++ it.told ∷ [];
      ran_by = record {
        are = All-append (IsAdvanceOf old.run) far.advances (it.told ∷ []) by.are (one_all old.run it.told is);
        lead = λ records behind. subst (λ (rs : List Record). IsBehind rs new.engine) (append_assoc records far.advances (it.told ∷ [])) (it.follows (records ++ far.advances) (by.lead records behind));
        setup_is = it.setup_is ∙ by.setup_is;
        run = it.run ∙ by.run;
        freeze = it.freeze ∙ by.freeze;
        records = it.records ∙ (ap (λ (rs : List Record). rs ++ it.told ∷ []) by.records ∙ append_assoc old.records.items far.advances (it.told ∷ []));
        instructions = omega (arith, it.instructions, by.instructions, sum_by_push instructions_of far.advances it.told);
      };
      counted = omega (arith, length-append far.advances (it.told ∷ []), far.counted);
      bound = omega (arith, it.instructions, it.bound, far.bound);
    }

pub all_made : (count : ℕ) (old new : Ran) → MORE_STOPS ≤ count → count ≤ MORE_STOPS → SoFar count old new → RanOn false old new
all_made count old new over under far = record { advances = far.advances; ran_by = far.ran_by; end_is = omega (arith, far.counted, over, under) }

pub at_end : (count : ℕ) (old between new : Ran) → SoFar count old between → NoMore between new → RanOn true old new
at_end count old between new far it =
    let by = far.ran_by in
    record {
      advances = far.advances;
      ran_by = record {
        are = by.are;
        lead = λ records behind. subst (λ (e : NumberedState). IsBehind (records ++ far.advances) e) (sym it.engine) (by.lead records behind);
        setup_is = ap (λ (e : NumberedState). e.setup) it.engine ∙ by.setup_is;
        run = it.run ∙ by.run;
        freeze = it.freeze ∙ by.freeze;
        records = it.records ∙ by.records;
        instructions = it.instructions ∙ by.instructions;
      };
      end_is = subst (λ (run : ℕ). IsAtEnd new.engine run) by.run it.ended;
    }
