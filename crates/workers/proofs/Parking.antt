-- How the runs that are kept are parked, one after the other.
use Rattle.std.proofs.Common.{◌≡◌, ℕ, ◌+◌, ◌<◌, List, [], ◌∷◌, ◌++◌, length, drop, All, refl, ap, sym, subst, ◌∙◌, arith, append_assoc, append-nil, length-append}
use Rattle.std.specs.Prelude.{slice_index_or, slice_set}
use Rattle.std.proofs.lemmas.List.Elements.{All-cons, All-head, All-tail}
use Rattle.inbox.specs.Views.{InboxView, PassView, IsOf}
use Rattle.world.specs.World.{Setup}
use Rattle.engine_core.specs.RunState.{RunState}
use Rattle.engine_core.specs.declared.event.Event.TheVariants.{Park}
use Rattle.engine_core.specs.declared.reply.Returned.TheVariants.{Run}
use Rattle.engine_core.specs.declared.reply.Success.TheVariants.{Parked}
use Rattle.engine_core.specs.declared.reply.Reply.TheVariants.{Success, NotAdmitted}
use Rattle.monitor.specs.Telling.{CallerState}
use Rattle.engine_lock.specs.Sharing.{Section}
use Rattle.workers.specs.Serving.{SeatState}
use Rattle.workers.specs.Settling.{AreSettled, AreSettledBy, nothing, parks, leaves}

pub empty_of : (runs : List RunState) → length runs ≡ 0 → runs ≡ []
empty_of [] none = refl
empty_of (run ∷ runs) none = absurd (omega (arith, none))

module _ (setup : Setup) where
  -- So many runs were tried by this caller. Those that were not are in front, and those that came back after them.
  pub record Turn (before after : CallerState) (all now : List RunState) (turn : ℕ) : Type 0 where
    pub done : List RunState
    pub ahead : List RunState
    pub left : List RunState
    pub all_is : all ≡ done ++ ahead
    pub now_is : now ≡ ahead ++ left
    pub turn_is : length done ≡ turn
    pub settled : AreSettled setup before done left after

  pub begins : (caller : CallerState) (all : List RunState) → Turn caller caller all all 0
  begins caller all = record {
    done = [];
    ahead = all;
    left = [];
    all_is = refl;
    now_is = sym (append-nil all);
    turn_is = refl;
    settled = nothing caller;
  }

  -- one more was tried
  parks_more : (a b c : CallerState) (done left : List RunState) (run : RunState) → AreSettled setup a done left b → Section setup (Park run) (Success Parked) b c → AreSettled setup a (done ++ run ∷ []) left c
  parks_more a b c done left run (nothing caller) is = parks caller c c run [] [] is (nothing c)
  parks_more a b c done left run (parks before between after first runs rest was more) is = parks before between c first (runs ++ run ∷ []) rest was (parks_more between after c runs rest run more is)
  parks_more a b c done left run (leaves before between after first runs rest was more) is = leaves before between c first (runs ++ run ∷ []) rest was (parks_more between after c runs rest run more is)

  leaves_more : (a b c : CallerState) (done left : List RunState) (run : RunState) → AreSettled setup a done left b → Section setup (Park run) (NotAdmitted (Run run)) b c → AreSettled setup a (done ++ run ∷ []) (left ++ run ∷ []) c
  leaves_more a b c done left run (nothing caller) is = leaves caller c c run [] [] is (nothing c)
  leaves_more a b c done left run (parks before between after first runs rest was more) is = parks before between c first (runs ++ run ∷ []) (rest ++ run ∷ []) was (leaves_more between after c runs rest run more is)
  leaves_more a b c done left run (leaves before between after first runs rest was more) is = leaves before between c first (runs ++ run ∷ []) (rest ++ run ∷ []) was (leaves_more between after c runs rest run more is)

  -- the first of those that were not tried
  first_is : (all now done ahead left : List RunState) (turn : ℕ) (run : RunState) → all ≡ done ++ ahead → now ≡ ahead ++ left → length done ≡ turn → turn < length all → run ≡ slice_index_or now 0 run → ahead ≡ run ∷ drop 1 ahead
  first_is all now done [] left turn run all_is now_is turn_is more is = absurd (omega (arith, ap length all_is, length-append done []))
  first_is all now done (first ∷ rest) left turn run all_is now_is turn_is more is =
      ap (λ (x : RunState). x ∷ rest) (sym (is ∙ ap (λ (xs : List RunState). slice_index_or xs 0 run) now_is))

  module _ (before after : CallerState) (all now : List RunState) (turn : ℕ) (run : RunState) (t : Turn before after all now turn) (more : turn < length all) where
    pub some_ahead : 0 < length now
    some_ahead = omega (arith, ap length t.all_is, ap length t.now_is, length-append t.done t.ahead, length-append t.ahead t.left, t.turn_is)

    module _ (is : run ≡ slice_index_or now 0 run) (next_caller : CallerState) where
      there : t.ahead ≡ run ∷ drop 1 t.ahead
      there = first_is all now t.done t.ahead t.left turn run t.all_is t.now_is t.turn_is more is

      all_still : all ≡ (t.done ++ run ∷ []) ++ drop 1 t.ahead
      all_still = t.all_is ∙ (ap (λ (xs : List RunState). t.done ++ xs) there ∙ sym (append_assoc t.done (run ∷ []) (drop 1 t.ahead)))

      now_then : drop 1 now ≡ drop 1 t.ahead ++ t.left
      now_then = ap (drop 1) (t.now_is ∙ ap (λ (xs : List RunState). xs ++ t.left) there)

      pub turns_parked : (next : List RunState) → next ≡ drop 1 now → Section setup (Park run) (Success Parked) after next_caller → Turn before next_caller all next (turn + 1)
      turns_parked next next_is parked = record {
        done = t.done ++ run ∷ [];
        ahead = drop 1 t.ahead;
        left = t.left;
        all_is = all_still;
        now_is = next_is ∙ now_then;
        turn_is = omega (arith, t.turn_is, length-append t.done (run ∷ []));
        settled = parks_more before after next_caller t.done t.left run t.settled parked;
      }

      pub turns_left : (next : List RunState) → next ≡ drop 1 now ++ run ∷ [] → Section setup (Park run) (NotAdmitted (Run run)) after next_caller → Turn before next_caller all next (turn + 1)
      turns_left next next_is left = record {
        done = t.done ++ run ∷ [];
        ahead = drop 1 t.ahead;
        left = t.left ++ run ∷ [];
        all_is = all_still;
        now_is = next_is ∙ (ap (λ (xs : List RunState). xs ++ run ∷ []) now_then ∙ append_assoc (drop 1 t.ahead) t.left (run ∷ []));
        turn_is = omega (arith, t.turn_is, length-append t.done (run ∷ []));
        settled = leaves_more before after next_caller t.done t.left run t.settled left;
      }

  ends : (before after : CallerState) (all now done ahead left : List RunState) → all ≡ done ++ ahead → now ≡ ahead ++ left → length done ≡ length all → AreSettled setup before done left after → AreSettled setup before all now after
  ends before after all now done [] left all_is now_is long settled =
      subst (λ (xs : List RunState). AreSettled setup before xs now after) (sym (all_is ∙ append-nil done)) (subst (λ (xs : List RunState). AreSettled setup before done xs after) (sym now_is) settled)
  ends before after all now done (first ∷ rest) left all_is now_is long settled = absurd (omega (arith, ap length all_is, length-append done (first ∷ rest)))

  -- all were tried
  pub turns_end : (before after : CallerState) (all now : List RunState) (turn : ℕ) → Turn before after all now turn → turn ≡ length all → AreSettled setup before all now after
  turns_end before after all now turn t end = ends before after all now t.done t.ahead t.left t.all_is t.now_is (t.turn_is ∙ end) t.settled

  -- by the first seat, or where there is none
  pub by_first : (seats : List SeatState) (caller after : CallerState) (pass : PassView) (runs left : List RunState) → 0 < length seats →
      record { caller = caller; pass = pass } ≡ slice_index_or seats 0 (record { caller = caller; pass = pass }) → AreSettled setup caller runs left after →
      AreSettledBy setup seats runs left (slice_set seats 0 (record { caller = after; pass = pass }))
  by_first [] caller after pass runs left some is settled = absurd (omega (arith, some))
  by_first (first ∷ rest) caller after pass runs left some is settled = (
    after,
    subst (λ (c : CallerState). AreSettled setup c runs left after) (ap (λ (s : SeatState). s.caller) is) settled,
    λ i. record { caller = after; pass = ap (λ (s : SeatState). s.pass) is i } ∷ rest,
  )

  pub by_none : (seats : List SeatState) (runs : List RunState) → length seats ≡ 0 → AreSettledBy setup seats runs runs seats
  by_none [] runs none = (refl, refl)
  by_none (seat ∷ seats) runs none = absurd (omega (arith, none))

  -- the seats are as many, and of the same inbox
  pub same_many : (seats after : List SeatState) (runs left : List RunState) → AreSettledBy setup seats runs left after → length after ≡ length seats
  same_many [] after runs left by = ap length by.1
  same_many (seat ∷ seats) after runs left by = ap length by.2

  pub same_passes : (inbox : InboxView) (seats after : List SeatState) (runs left : List RunState) → AreSettledBy setup seats runs left after → All (λ (seat : SeatState). IsOf inbox seat.pass) seats → All (λ (seat : SeatState). IsOf inbox seat.pass) after
  same_passes inbox [] after runs left by are = subst (λ (xs : List SeatState). All (λ (it : SeatState). IsOf inbox it.pass) xs) (sym by.1) are
  same_passes inbox (seat ∷ seats) after runs left by are =
      subst (λ (xs : List SeatState). All (λ (it : SeatState). IsOf inbox it.pass) xs) (sym by.2)
      (All-cons (λ (it : SeatState). IsOf inbox it.pass) (record seat { caller = by.0 }) seats
      (All-head (λ (it : SeatState). IsOf inbox it.pass) seat seats are)
      (All-tail (λ (it : SeatState). IsOf inbox it.pass) seat seats are))
