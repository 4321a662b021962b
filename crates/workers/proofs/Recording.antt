-- What the records of a worker's caller speak of, if it keeps no completion.
use Rattle.std.proofs.Common.{◌≡◌, List, [], ◌∷◌, ◌++◌, map, length, All, refl, ap, sym, subst, ◌∙◌, arith, append_assoc, append-nil}
use Rattle.std.specs.List.{AllZip}
use Rattle.std.proofs.lemmas.List.Elements.{All-head, All-tail}
use Rattle.world_calls.specs.declared.record.Record.{Record}
use Rattle.ccb.specs.Completion.{Outcome}
use Rattle.world.specs.World.{Setup}
use Rattle.engine_core.specs.declared.event.Event.{Event}
use Rattle.engine_core.specs.declared.event.Event.TheVariants.{Complete, Advance}
use Rattle.engine_core.specs.declared.reply.Reply.{Reply}
use Rattle.engine_core.specs.declared.reply.Reply.TheVariants.{Success, Refused, NotAdmitted, OutOfMemory}
use Rattle.monitor.specs.declared.knowledge.Pair.{Pair}
use Rattle.monitor.specs.Telling.{CallerState, Joins}
use Rattle.engine_lock.specs.Sharing.{Tells}
use Rattle.workers.specs.Calls.{AreMade, CallMade, made_none, made_more}
use Rattle.workers.specs.Recorded.{AreRecorded, IsSeatRecorded, completion_in, completions_of}
use Rattle.workers.specs.Serving.{AreServed, HasDone, SeatState, ServedState, Serves, WorkerState, all_of, asked, asked_by, at_rest, completions_in, is_answered, nothing_served, unanswered, unless, with_worker}
use Rattle.workers.proofs.Turns.{seat_of, seats_back}

pub completions_append : (xs ys : List Record) → completions_of (xs ++ ys) ≡ completions_of xs ++ completions_of ys
completions_append [] ys = refl
completions_append (x ∷ xs) ys = ap (λ (zs : List Outcome). completion_in x ++ zs) (completions_append xs ys) ∙ sym (append_assoc (completion_in x) (completions_of xs) (completions_of ys))

left_none : (xs ys : List Outcome) → xs ++ ys ≡ [] → xs ≡ []
left_none [] ys none = refl
left_none (x ∷ xs) ys none = absurd (omega (arith, ap length none))

right_none : (xs ys : List Outcome) → xs ++ ys ≡ [] → ys ≡ []
right_none [] ys none = none
right_none (x ∷ xs) ys none = absurd (omega (arith, ap length none))

-- the same caller, which recorded these completions since
record Since (before after : CallerState) (more : List Outcome) : Type 0 where
  number : after.number ≡ before.number
  recorded : completions_of after.mine ≡ completions_of before.mine ++ more

module _ (setup : Setup) where
  by_record : (history : List Pair) (before after : CallerState) (made : Record) → Joins setup history before (made ∷ []) after → Since before after (completion_in made ++ [])
  by_record history before after made joins = record {
    number = ap (λ (c : CallerState). c.number) joins.after_is;
    recorded = ap (λ (c : CallerState). completions_of c.mine) joins.after_is ∙ completions_append before.mine (made ∷ []);
  }

  by_none : (before after : CallerState) → after.number ≡ before.number → after.mine ≡ before.mine → Since before after []
  by_none before after number same = record {
    number = number;
    recorded = ap completions_of same ∙ sym (append-nil (completions_of before.mine));
  }

  of_call : (history : List Pair) (before after : CallerState) (event : Event) (reply : Reply) → Tells setup history event reply before after → Serves event → unless (is_answered reply) (asked_by event) ≡ [] → Since before after (asked_by event)
  of_call history before after (Complete completion) (Success given) tells serves none = by_record history before after _ tells
  of_call history before after (Complete completion) (Refused refusal) tells serves none = by_record history before after _ tells
  of_call history before after (Complete completion) (NotAdmitted back) tells serves none = absurd (omega (arith, ap length none))
  of_call history before after (Complete completion) (OutOfMemory back) tells serves none = absurd (omega (arith, ap length none))
  of_call history before after (Advance run) (Success given) tells serves none = by_record history before after _ tells
  of_call history before after (Advance run) (Refused refusal) tells serves none = by_none before after (ap (λ (c : CallerState). c.number) tells) (ap (λ (c : CallerState). c.mine) tells)
  of_call history before after (Advance run) (NotAdmitted back) tells serves none = by_none before after (ap (λ (c : CallerState). c.number) tells.after_is) (ap (λ (c : CallerState). c.mine) tells.after_is)
  of_call history before after (Advance run) (OutOfMemory back) tells serves none = by_none before after (ap (λ (c : CallerState). c.number) tells) (ap (λ (c : CallerState). c.mine) tells)
  of_call history before after event reply tells serves none = absurd serves

  of_calls : (a c : CallerState) (calls : List CallMade) → AreMade setup a calls c → All (λ (call : CallMade). Serves call.event) calls → unanswered calls ≡ [] → Since a c (asked calls)
  of_calls a c [] (made_none caller) serves none = by_none caller caller refl refl
  of_calls a c (call ∷ calls) (made_more before between after first rest section made) serves none =
      let here = of_call section.history before between first.event first.reply section.tells
      (All-head (λ (it : CallMade). Serves it.event) first rest serves)
      (left_none (unless (is_answered first.reply) (asked_by first.event)) (unanswered rest) none) in
      let then = of_calls between after rest made (All-tail (λ (it : CallMade). Serves it.event) first rest serves)
      (right_none (unless (is_answered first.reply) (asked_by first.event)) (unanswered rest) none) in record {
        number = then.number ∙ here.number;
        recorded = then.recorded
            ∙ (ap (λ (xs : List Outcome). xs ++ asked rest) here.recorded ∙ append_assoc (completions_of before.mine) (asked_by first.event) (asked rest));
      }

  -- a worker that keeps no completion
  of_worker : (seat : SeatState) (worker : WorkerState) → HasDone setup (at_rest seat) worker → completions_in worker.kept ≡ [] → IsSeatRecorded seat (seat_of worker)
  of_worker seat worker did none =
      let since = of_calls seat.caller worker.caller did.calls did.made did.serves (sym did.keeps ∙ none) in record {
        taken = did.taken;
        pass = did.pass;
        number = since.number;
        recorded = since.recorded ∙ ap (λ (xs : List Outcome). completions_of seat.caller.mine ++ xs) (sym did.asks);
      }

  abbrev kept_of : List WorkerState → List Outcome
  kept_of [] = []
  kept_of (worker ∷ workers) = completions_in worker.kept ++ kept_of workers

  kept_all : (workers : List WorkerState) (served : ServedState) → (all_of workers served).completions ≡ served.completions ++ kept_of workers
  kept_all [] served = sym (append-nil served.completions)
  kept_all (worker ∷ workers) served = kept_all workers (with_worker worker served) ∙ append_assoc served.completions (completions_in worker.kept) (kept_of workers)

  each_recorded : (seats : List SeatState) (workers : List WorkerState) → AllZip (HasDone setup) (map at_rest seats) workers → kept_of workers ≡ [] → AreRecorded seats (map seat_of workers)
  each_recorded [] [] did none = tt
  each_recorded [] (worker ∷ workers) did none = absurd did
  each_recorded (seat ∷ seats) [] did none = absurd did
  each_recorded (seat ∷ seats) (worker ∷ workers) did none = (
    of_worker seat worker did.0 (left_none (completions_in worker.kept) (kept_of workers) none),
    each_recorded seats workers did.1 (right_none (completions_in worker.kept) (kept_of workers) none),
  )

  pub are_recorded : (seats : List SeatState) (served : ServedState) → AreServed setup seats served → served.completions ≡ [] → AreRecorded seats served.seats
  are_recorded seats served are none =
      subst (AreRecorded seats) (sym (ap (λ (s : ServedState). s.seats) are.served_is ∙ seats_back are.workers nothing_served))
      (each_recorded seats are.workers are.each_did (sym (ap (λ (s : ServedState). s.completions) are.served_is ∙ kept_all are.workers nothing_served) ∙ none))
