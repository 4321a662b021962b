-- A run that is driven, stop by stop.
use Rattle.std.proofs.Common.{◌≡◌, ℕ, ◌+◌, Bool, true, List, [], ◌∷◌, ◌++◌, length, refl, ap, sym, subst, ◌∙◌, append-nil, arith, length-append}
use Rattle.std.proofs.lemmas.List.Elements.{All-nil, All-cons, All-append}
use Rattle.world.specs.World.{Setup, World}
use Rattle.engine_core.specs.RunState.{RunState, StoppedState, before_stop}
use Rattle.engine_core.specs.declared.event.Event.TheVariants.{Advance}
use Rattle.engine_core.specs.declared.reply.Returned.{Returned}
use Rattle.engine_core.specs.declared.reply.Returned.TheVariants as back
use Rattle.engine_core.specs.declared.reply.Reply.{Reply}
use Rattle.engine_core.specs.declared.reply.Success.{Success as WhatIsGiven}
use Rattle.engine_core.specs.declared.reply.Success.TheVariants.{Goes}
use Rattle.engine_core.specs.Replies.{IsGiven}
use Rattle.monitor.specs.Telling.{CallerState}
use Rattle.engine_lock.specs.Sharing.{Section}
use Rattle.workers.specs.Calls.{CallMade, made_none}
use Rattle.workers.specs.declared.driving.Why.{Why}
use Rattle.workers.specs.declared.driving.Why.TheVariants.{BudgetUsed}
use Rattle.workers.specs.Serving.{AreCarriedOut, Drives, Ends, GoUntil, HasLeft, IsAdvanceOf, Leaves, ended, ended_by, is_given}
use Rattle.workers.proofs.Made.{each_append, made_one}

pub run_back : (r s : RunState) → back.Run r ≡ back.Run s → r ≡ s
run_back r s same = ap (λ (b : Returned). the_run b r) same
  where
    the_run : Returned → RunState → RunState
    the_run (back.Run run) other = run
    the_run (back.Token token) other = other
    the_run back.Nothing other = other

-- the run that goes on bears the number of the one that was advanced, and has its program
pub goes_as : (setup : Setup) (before after : World) (stopped : StoppedState) (given : WhatIsGiven) (run : RunState) (r0 : ℕ) → given ≡ Goes run r0 → IsGiven setup before (Advance stopped) after given → (run.number ≡ stopped.number) × (run.program ≡ stopped.segment.program)
goes_as setup before after stopped given run r0 is gives = let goes = subst (λ (it : WhatIsGiven). IsGiven setup before (Advance stopped) after it) is gives in (goes.0, goes.1)

module _ (setup : Setup) where
  -- one advance more, with what ended by it
  abbrev pub goes_further : (number : ℕ) (exited : List ℕ) (a b c : CallerState) (stopped : StoppedState) (reply : Reply) → Drives setup number [] a b → stopped.number ≡ number → Section setup (Advance stopped) reply b c → ended_by (Advance stopped) reply ≡ exited → Drives setup number exited a c
  goes_further number exited a b c stopped reply drives same section is =
      let call : CallMade = record { event = Advance stopped; reply = reply } in record {
        calls = drives.calls ++ call ∷ [];
        made = made_one setup a b c drives.calls (Advance stopped) reply drives.made section;
        advances = All-append (λ (it : CallMade). IsAdvanceOf number it.event) drives.calls (call ∷ []) drives.advances
            (All-cons (λ (it : CallMade). IsAdvanceOf number it.event) call [] same (All-nil (λ (it : CallMade). IsAdvanceOf number it.event)));
        ends = each_append (λ (it : CallMade). ended_by it.event it.reply) drives.calls (call ∷ [])
            ∙ (ap (λ (xs : List ℕ). xs ++ ended (call ∷ [])) drives.ends ∙ (append-nil (ended_by (Advance stopped) reply) ∙ is));
      }

  -- one call more that was carried out
  abbrev pub WasGiven : CallMade → Type 0
  WasGiven call = is_given call.reply ≡ true

  pub went_on : (calls : List CallMade) (call : CallMade) → AreCarriedOut calls → is_given call.reply ≡ true → AreCarriedOut (calls ++ call ∷ [])
  went_on calls call went is = All-append WasGiven calls (call ∷ []) went (All-cons WasGiven call [] is (All-nil WasGiven))

  -- the advance after them that was answered so
  pub until_after : (calls : List CallMade) (stopped : StoppedState) → AreCarriedOut calls → (reply told : Reply) → reply ≡ told → GoUntil told (calls ++ record { event = Advance stopped; reply = reply } ∷ [])
  until_after calls stopped went reply told is = record {
    before = calls;
    last = record { event = Advance stopped; reply = reply };
    calls_are = refl;
    went = went;
    last_is = is;
  }

  -- The run was advanced so many times, each time with success, and is at this stop.
  pub record Drove (run : RunState) (before after : CallerState) (stopped : StoppedState) (turn : ℕ) : Type 0 where
    pub drives : Drives setup run.number [] before after
    pub went : AreCarriedOut drives.calls
    pub many : length drives.calls ≡ turn
    pub number : stopped.number ≡ run.number
    pub program : stopped.segment.program ≡ run.program

  -- no call yet
  pub sets_out : (run : RunState) (caller : CallerState) (stopped : StoppedState) → before_stop stopped ≡ run → Drove run caller caller stopped 0
  sets_out run caller stopped is = record {
    drives = record { calls = []; made = made_none caller; advances = All-nil (λ (call : CallMade). IsAdvanceOf run.number call.event); ends = refl };
    went = All-nil WasGiven;
    many = refl;
    number = ap (λ (it : RunState). it.number) is;
    program = ap (λ (it : RunState). it.program) is;
  }

  module _ (run : RunState) (a b c : CallerState) (stopped : StoppedState) (turn : ℕ) (so_far : Drove run a b stopped turn) where
    -- it went on to its next stop
    pub goes_on : (again : StoppedState) (reply : Reply) → Section setup (Advance stopped) reply b c → is_given reply ≡ true → ended_by (Advance stopped) reply ≡ [] → again.number ≡ stopped.number → again.segment.program ≡ stopped.segment.program → Drove run a c again (turn + 1)
    goes_on again reply section given is number program = record {
      drives = goes_further run.number [] a b c stopped reply so_far.drives so_far.number section is;
      went = went_on so_far.drives.calls (record { event = Advance stopped; reply = reply }) so_far.went given;
      many = omega (arith, so_far.many, length-append so_far.drives.calls (record { event = Advance stopped; reply = reply } ∷ []));
      number = number ∙ so_far.number;
      program = program ∙ so_far.program;
    }

    -- it came to its exit
    pub ends : (reply : Reply) → Section setup (Advance stopped) reply b c → is_given reply ≡ true → ended_by (Advance stopped) reply ≡ stopped.number ∷ [] → Ends setup run.number a c
    ends reply section given is = record {
      drives = goes_further run.number (run.number ∷ []) a b c stopped reply so_far.drives so_far.number section (is ∙ ap (λ (n : ℕ). n ∷ []) so_far.number);
      went = went_on so_far.drives.calls (record { event = Advance stopped; reply = reply }) so_far.went given;
    }

    -- the advance that was answered so
    pub until : (reply told : Reply) → reply ≡ told → GoUntil told (so_far.drives.calls ++ record { event = Advance stopped; reply = reply } ∷ [])
    until = until_after so_far.drives.calls stopped so_far.went

    -- it came back, where that advance was not carried out
    pub comes_back : (why : Why) (reply : Reply) (came : Returned) (left : RunState) → Section setup (Advance stopped) reply b c → ended_by (Advance stopped) reply ≡ [] → HasLeft why left (so_far.drives.calls ++ record { event = Advance stopped; reply = reply } ∷ []) → came ≡ back.Run (before_stop stopped) → came ≡ back.Run left → Leaves setup run left why a c
    comes_back why reply came left section is has_left owned back_is =
        let same = run_back left (before_stop stopped) (sym back_is ∙ owned) in record {
          number = ap (λ (it : RunState). it.number) same ∙ so_far.number;
          program = ap (λ (it : RunState). it.program) same ∙ so_far.program;
          drives = goes_further run.number [] a b c stopped reply so_far.drives so_far.number section is;
          has_left = has_left;
        }

  -- there were as many advances as may be
  pub is_used_up : (run : RunState) (a b : CallerState) (stopped : StoppedState) (turn : ℕ) (left : RunState) → Drove run a b stopped turn → turn ≡ run.program.budget → left ≡ before_stop stopped → Leaves setup run left BudgetUsed a b
  is_used_up run a b stopped turn left so_far used same = record {
    number = ap (λ (it : RunState). it.number) same ∙ so_far.number;
    program = ap (λ (it : RunState). it.program) same ∙ so_far.program;
    drives = so_far.drives;
    has_left = (so_far.many ∙ (used ∙ sym (ap (λ (it : RunState). it.program.budget) same ∙ ap (λ p. p.budget) so_far.program)), so_far.went);
  }
