-- What is advised for a CCB is told by its next start, and its class stays.
use Rattle.std.proofs.Common.{◌≡◌, ℕ, [], ◌∷◌, ◌++◌, Some, None, inl, inr, refl, ap, sym, subst, ◌∙◌}
use Rattle.std.proofs.lemmas.Bool.{cases_eq}
use Rattle.ccb.specs.declared.QueueId.{QueueId}
use Rattle.ccb.specs.declared.call_refusal.CallRefusal.{CallRefusal}
use Rattle.ccb.specs.Ccb.{advised, completed, requeued, started}
use Rattle.helpers.specs.declared.request.Request.{Request}
use Rattle.helpers.specs.declared.table.Helper.{Helper}
use Rattle.helpers.specs.declared.table.Helper.TheVariants.{Advise}
use Rattle.helpers.specs.Table.{row_of}
use Rattle.world_calls.specs.declared.call.Call.TheVariants as calls
use Rattle.world_calls.specs.declared.call_answer.CallAnswer.TheVariants as answers
use Rattle.world_calls.specs.Answered.{started_answer}
use Rattle.world_calls.specs.declared.start.Start.{Start}
use Rattle.world_calls.specs.declared.trace.Version.{Version}
use Rattle.world_calls.specs.declared.trace.Version.TheVariants.{One, Three, Two}
use Rattle.world.specs.declared.ccb_state.CcbState.TheVariants.{Active, InRecovery, Waiting}
use Rattle.world.specs.World.{LiveCcb, Setup, World, version_of}
use Rattle.world.specs.Lookups.{ccb_of, with_ccb}
use Rattle.world.specs.Limits.{KeepsLimits}
use Rattle.world.specs.Told.{Told, plain, told_by, told_of}
use Rattle.world.specs.Event.{call, Event, called, executes, Reply, replies, refused}
use Rattle.world.specs.Laws.Advice.{AdviceIsTold, KeepsWords, starts_ccb}
use Rattle.world.proofs.Lists.Found.{found_key, found_push, leave, leave_other, leave_same, put_other, put_same}
use Rattle.world.proofs.Steps.Moves.{ccb_found, ccb_key, next_found}
use Rattle.world_laws.proofs.Leads.{limits_are_kept}
use Rattle.world_laws.proofs.Steps.Calls.{Asks}
use Rattle.world_laws.proofs.Steps.Cases.{Case, asks_one, case_of, dispatches, exits, finishes_one, freezes_one, goes_on_one, reads_clock, recovers_one, recovers_unfrozen, refuses, releases_one, submits, turns_one, withdraws_one}
use Rattle.world_laws.proofs.Steps.Does.{CcbDeed, advises_one, ends_one, leaves_ccbs, requeues_one}
use Rattle.world_laws.proofs.Steps.Effects.{begins_frozen, begins_unfrozen}

-- ---- which CCB starts

refused_starts : (event : Event) (refusal : CallRefusal) → starts_ccb event (refused refusal) ≡ None
refused_starts (called (calls.Submit queue priority retries class)) refusal = refl
refused_starts (called (calls.Dispatch queue)) refusal = refl
refused_starts (called (calls.Complete outcome)) refusal = refl
refused_starts (called (calls.Withdraw ccb)) refusal = refl
refused_starts (called (calls.GuestFreeze place guest)) refusal = refl
refused_starts (called (calls.GuestRelease freeze)) refusal = refl
refused_starts (called (calls.Clock reading)) refusal = refl
refused_starts (called (calls.Park run)) refusal = refl
refused_starts (called (calls.Resume run)) refusal = refl
refused_starts (executes run instruction) refusal = refl

ok_starts : (event : Event) → starts_ccb event (replies answers.Ok) ≡ None
ok_starts (called (calls.Submit queue priority retries class)) = refl
ok_starts (called (calls.Dispatch queue)) = refl
ok_starts (called (calls.Complete outcome)) = refl
ok_starts (called (calls.Withdraw ccb)) = refl
ok_starts (called (calls.GuestFreeze place guest)) = refl
ok_starts (called (calls.GuestRelease freeze)) = refl
ok_starts (called (calls.Clock reading)) = refl
ok_starts (called (calls.Park run)) = refl
ok_starts (called (calls.Resume run)) = refl
ok_starts (executes run instruction) = refl

start_starts : (queue : QueueId) (version : Version) (start : Start) → starts_ccb (called (calls.Dispatch queue)) (replies (started_answer version start)) ≡ Some start.ccb.0
start_starts queue One start = refl
start_starts queue Two start = refl
start_starts queue Three start = refl

-- a call that advises is told by its name alone
advise_told : (request : Request) → request.helper ≡ Advise → told_of request ≡ plain Advise
unfolding row_of
advise_told request is = ap (λ (h : Helper). told_by (row_of h).tells request) is ∙ ap plain is

-- ---- one CCB, before and after

module _ (setup : Setup) (before : World) (event : Event) (reply : Reply) (after : World) (number : ℕ) (old new : LiveCcb) (was : ccb_of number before.transport.live ≡ Some old) (is : ccb_of number after.transport.live ≡ Some new) where
  unstarted : starts_ccb event reply ≡ None → starts_ccb event reply ≡ Some number → ⊥
  unstarted none starts = let bad : None ≡ Some number = sym none ∙ starts in cc

  same_one : (starts_ccb event reply ≡ Some number → ⊥) → new ≡ old → KeepsWords setup before event reply number old new
  same_one none same = record {
    class = ap (λ (c : LiveCcb). c.ccb.class) same;
    told = λ starts. absurd (none starts);
    stays = λ unstarted_one unadvised. ap (λ (c : LiveCcb). c.ccb.advice) same;
  }

  stay : after.transport.live ≡ before.transport.live → new ≡ old
  stay live_is = let both : Some new ≡ Some old = sym is ∙ (ap (ccb_of number) live_is ∙ was) in cc

  entered : (c : LiveCcb) → after.transport.live ≡ before.transport.live ++ c ∷ [] → new ≡ old
  entered c live_is = let both : Some new ≡ Some old = sym is ∙ (ap (ccb_of number) live_is ∙ found_push ccb_key number before.transport.live c old was) in cc

  left : (gone : ℕ) → after.transport.live ≡ leave ccb_key gone before.transport.live → new ≡ old
  left gone live_is = elim (cases_eq gone number) [
    | inl same ↦
        let none : ccb_of number after.transport.live ≡ None = subst (λ (n : ℕ). ccb_of n after.transport.live ≡ None) same (ap (ccb_of gone) live_is ∙ leave_same ccb_key gone before.transport.live) in
        absurd (let bad : None ≡ Some new = sym none ∙ is in cc)
    | inr apart ↦
        let both : Some new ≡ Some old = sym is ∙ (ap (ccb_of number) live_is ∙ (leave_other ccb_key gone number before.transport.live apart ∙ was)) in cc
  ]

  -- another one is changed
  another : (c : LiveCcb) → (c.ccb.number.0 ≡ number → ⊥) → after.transport.live ≡ with_ccb c before.transport.live → new ≡ old
  another c apart live_is = let both : Some new ≡ Some old = sym is ∙ (ap (ccb_of number) live_is ∙ (put_other ccb_key c number before.transport.live apart ∙ was)) in cc

  -- this one is
  now_it : (x c : LiveCcb) → ccb_of c.ccb.number.0 before.transport.live ≡ Some x → c.ccb.number.0 ≡ number → after.transport.live ≡ with_ccb c before.transport.live → new ≡ c
  now_it x c there same live_is =
      let found : ccb_of number after.transport.live ≡ Some c = subst (λ (n : ℕ). ccb_of n after.transport.live ≡ Some c) same (ap (ccb_of c.ccb.number.0) live_is ∙ put_same ccb_key c before.transport.live x there) in
      let both : Some new ≡ Some c = sym is ∙ found in cc

  once_it : (x : LiveCcb) (named : ℕ) → ccb_of named before.transport.live ≡ Some x → named ≡ number → old ≡ x
  once_it x named there same =
      let both : Some old ≡ Some x = sym was ∙ subst (λ (n : ℕ). ccb_of n before.transport.live ≡ Some x) same there in cc

  -- one that is changed keeps its words
  changed : (x c : LiveCcb) → ccb_of c.ccb.number.0 before.transport.live ≡ Some x → after.transport.live ≡ with_ccb c before.transport.live → c.ccb.class ≡ x.ccb.class → c.ccb.advice ≡ x.ccb.advice → (starts_ccb event reply ≡ Some number → ⊥) → KeepsWords setup before event reply number old new
  changed x c there live_is class advice none = elim (cases_eq c.ccb.number.0 number) [
    | inr apart ↦ same_one none (another c apart live_is)
    | inl same ↦
        let now = now_it x c there same live_is in
        let once = once_it x c.ccb.number.0 there same in
        record {
          class = ap (λ (l : LiveCcb). l.ccb.class) now ∙ (class ∙ sym (ap (λ (l : LiveCcb). l.ccb.class) once));
          told = λ starts. absurd (none starts);
          stays = λ unstarted_one unadvised. ap (λ (l : LiveCcb). l.ccb.advice) now ∙ (advice ∙ sym (ap (λ (l : LiveCcb). l.ccb.advice) once));
        }
  ]

  by_deed : (it : Asks setup before event reply after) → CcbDeed before it.it.run it.request it.given it.between → KeepsWords setup before event reply number old new
  by_deed it (leaves_ccbs effect) =
      same_one (unstarted (ap (λ (x : Event). starts_ccb x reply) it.it.event_is)) (stay (ap (λ (x : Reply × World). x.1.transport.live) it.answer ∙ effect.live_is))
  by_deed it (requeues_one effect) =
      changed effect.its.live (record { ccb = requeued effect.its.live.ccb it.request.arguments.first; state = Waiting }) (ccb_found _ before.transport.live effect.its.live effect.its.found)
      (ap (λ (x : Reply × World). x.1.transport.live) it.answer ∙ effect.live_is) refl refl (unstarted (ap (λ (x : Event). starts_ccb x reply) it.it.event_is))
  by_deed it (ends_one effect) =
      same_one (unstarted (ap (λ (x : Event). starts_ccb x reply) it.it.event_is)) (left effect.its.live.ccb.number.0 (ap (λ (x : Reply × World). x.1.transport.live) it.answer ∙ effect.live_is))
  by_deed it (advises_one effect) =
      let x : LiveCcb = effect.its.live in
      let c : LiveCcb = record x { ccb = advised x.ccb it.request.arguments.first } in
      let there : ccb_of c.ccb.number.0 before.transport.live ≡ Some x = ccb_found _ before.transport.live x effect.its.found in
      let live_is : after.transport.live ≡ with_ccb c before.transport.live = ap (λ (x : Reply × World). x.1.transport.live) it.answer ∙ effect.live_is in
      let none : starts_ccb event reply ≡ Some number → ⊥ = unstarted (ap (λ (x : Event). starts_ccb x reply) it.it.event_is) in
      elim (cases_eq x.ccb.number.0 number) [
        | inr apart ↦ same_one none (another c apart live_is)
        | inl same ↦
            let named : x.ccb.number.0 ≡ it.it.run.ccb = found_key ccb_key it.it.run.ccb before.transport.live x effect.its.found in
            record {
              class = ap (λ (l : LiveCcb). l.ccb.class) (now_it x c there same live_is) ∙ sym (ap (λ (l : LiveCcb). l.ccb.class) (once_it x c.ccb.number.0 there same));
              told = λ starts. absurd (none starts);
              stays = λ unstarted_one unadvised. absurd (unadvised (record {
                number = it.it.number;
                run = it.it.run;
                found = it.it.found;
                ccb_is = sym named ∙ same;
                event_is = it.it.event_is ∙ ap (λ (t : Told). executes it.it.number (call t)) (advise_told it.request effect.helper_is);
              }));
            }
      ]

  by_case : KeepsLimits setup before → Case setup before event reply after → KeepsWords setup before event reply number old new
  by_case kept (refuses it) = same_one (unstarted (ap (starts_ccb event) it.reply_is ∙ refused_starts event it.refusal)) (stay (ap (λ (w : World). w.transport.live) it.after_is))
  by_case kept (submits it) =
      same_one (unstarted (ap (λ (x : Event). starts_ccb x reply) it.event_is)) (entered _ (ap (λ (w : World). w.transport.live) it.after_is))
  by_case kept (dispatches it) =
      let next = next_found it.queue.0 before.transport.live before.transport.greatest_ccb it.next kept.ccbs.rising it.next_is in
      let x : LiveCcb = it.next in
      let c : LiveCcb = record { ccb = started x.ccb; state = Active } in
      let start : Start = record { ccb = x.ccb.number; advice = x.ccb.advice } in
      let live_is : after.transport.live ≡ with_ccb c before.transport.live = ap (λ (w : World). w.transport.live) it.after_is in
      let tells : starts_ccb event reply ≡ Some x.ccb.number.0 =
      ap (λ (e : Event). starts_ccb e reply) it.event_is ∙ (ap (starts_ccb (called (calls.Dispatch it.queue))) it.reply_is ∙ start_starts it.queue (version_of setup) start) in
      elim (cases_eq x.ccb.number.0 number) [
        | inr apart ↦ same_one (λ starts. apart (let both : Some x.ccb.number.0 ≡ Some number = sym tells ∙ starts in cc)) (another c apart live_is)
        | inl same ↦
            let now = now_it x c next.found same live_is in
            let once = once_it x c.ccb.number.0 next.found same in
            record {
              class = ap (λ (l : LiveCcb). l.ccb.class) now ∙ sym (ap (λ (l : LiveCcb). l.ccb.class) once);
              told = λ starts. (
                it.reply_is ∙ ap (λ (l : LiveCcb). replies (started_answer (version_of setup) (record { ccb = l.ccb.number; advice = l.ccb.advice }))) (sym once),
                ap (λ (l : LiveCcb). l.ccb.advice) now,
              );
              stays = λ unstarted_one unadvised. absurd (unstarted_one (tells ∙ ap (λ (n : ℕ). Some n) same));
            }
      ]
  by_case kept (finishes_one it) =
      same_one (unstarted (ap (λ (x : Event). starts_ccb x reply) it.event_is)) (left it.live.ccb.number.0 (ap (λ (w : World). w.transport.live) it.after_is))
  by_case kept (withdraws_one it) =
      same_one (unstarted (ap (λ (x : Event). starts_ccb x reply) it.event_is)) (left it.live.ccb.number.0 (ap (λ (w : World). w.transport.live) it.after_is))
  by_case kept (recovers_one it) =
      let begun = (begins_frozen setup before event reply after it).1 in
      changed begun.live (record { ccb = completed begun.live.ccb begun.outcome begun.taken; state = InRecovery }) (ccb_found begun.outcome.ccb.0 before.transport.live begun.live begun.found) begun.live_is refl refl
      (unstarted (ap (λ (x : Event). starts_ccb x reply) begun.event_is))
  by_case kept (recovers_unfrozen it) =
      let begun = (begins_unfrozen setup before event reply after it).1 in
      changed begun.live (record { ccb = completed begun.live.ccb begun.outcome begun.taken; state = InRecovery }) (ccb_found begun.outcome.ccb.0 before.transport.live begun.live begun.found) begun.live_is refl refl
      (unstarted (ap (λ (x : Event). starts_ccb x reply) begun.event_is))
  by_case kept (freezes_one it) = same_one (unstarted (ap (λ (x : Event). starts_ccb x reply) it.event_is)) (stay (ap (λ (w : World). w.transport.live) it.after_is))
  by_case kept (releases_one it) = same_one (unstarted (ap (λ (x : Event). starts_ccb x reply) it.event_is)) (stay (ap (λ (w : World). w.transport.live) it.after_is))
  by_case kept (reads_clock it) = same_one (unstarted (ap (λ (x : Event). starts_ccb x reply) it.event_is)) (stay (ap (λ (w : World). w.transport.live) it.after_is))
  by_case kept (turns_one it) = same_one (unstarted (ap (starts_ccb event) it.reply_is ∙ ok_starts event)) (stay (ap (λ (w : World). w.transport.live) it.after_is))
  by_case kept (goes_on_one it) = same_one (unstarted (ap (λ (x : Event). starts_ccb x reply) it.it.event_is)) (stay (ap (λ (w : World). w.transport.live) it.after_is))
  by_case kept (asks_one it) = by_deed it it.ccbs
  by_case kept (exits it) = same_one (unstarted (ap (λ (x : Event). starts_ccb x reply) it.it.event_is)) (stay (ap (λ (w : World). w.transport.live) it.after_is))

pub advice_is_told : AdviceIsTold
advice_is_told setup lawful xs before run event reply after step ccb old new was is =
    by_case setup before event reply after ccb old new was is (limits_are_kept setup lawful xs before run) (case_of setup before event reply after step)
