-- Frozen counts move as the entries do.
use Rattle.std.proofs.Common.{◌≡◌, ℕ, ◌+◌, List, false, cond, eqb, Some, ap, refl, sym, ◌∙◌, arith}
use Rattle.std.proofs.lemmas.Bool.{ne_eqb}
use Rattle.freeze_ledger.specs.declared.freeze.Freeze.{Freeze}
use Rattle.freeze_ledger.specs.Freezes.{frozen, entry_of, without, due_at}
use Rattle.ccb.specs.Places.{is_place}
use Rattle.world_calls.specs.declared.call_answer.CallAnswer.TheVariants as answers
use Rattle.world.specs.FreezeSteps.{frozen_with}
use Rattle.helpers.specs.declared.request.Request.{Request}
use Rattle.helpers.specs.declared.table.HelperEffect.TheVariants as effects
use Rattle.helpers.specs.declared.request.Answer.{Answer}
use Rattle.world.specs.World.{Setup, LiveRun, World}
use Rattle.world.specs.Lookups.{run_of}
use Rattle.world.specs.Told.{told_of}
use Rattle.world.specs.Event.{call, Event, executes, Reply, replies, result}
use Rattle.world.specs.Laws.FreezeLaws.{OneFewer, Calls, MovesCounts, CountsAreEntries}
use Rattle.world.proofs.Lists.Entries.{frozen_push, frozen_without, frozen_handed_over, frozen_due}
use Rattle.world_laws.proofs.Steps.Does.{FreezeDeed, leaves_freezes, takes_one, gives_one_back, hands_one_over, moves_by}
use Rattle.world_laws.proofs.Steps.Cases.{Case, case_of, refuses, submits, dispatches, finishes_one, withdraws_one, recovers_one, recovers_unfrozen, freezes_one, releases_one, reads_clock, turns_one, goes_on_one, asks_one, exits}
use Rattle.world.proofs.Steps.Moves.{KeepsLists}
use Rattle.world_laws.proofs.Leads.{lists_are_kept}

-- the count after the freeze of this number went
goes : (setup : Setup) (before after : World) (number : ℕ) (freeze : Freeze) → KeepsLists setup before → entry_of number before.transport.freezes ≡ Some freeze → after.transport.freezes ≡ without number before.transport.freezes → OneFewer before number (frozen_with freeze (without number before.transport.freezes)) after
goes setup before after number freeze kept entry e =
    record {
      freeze = freeze;
      entry = entry;
      count_is = sym (ap (frozen_with freeze) e);
      fewer = λ other.
          ap (λ (fs : List Freeze). frozen other fs + cond {A = ℕ} (is_place freeze.place other) 1 0) e
          ∙ frozen_without other 0 before.transport.freezes before.transport.greatest_freeze number freeze kept.freezes.numbered entry;
    }

-- what a call of a helper does, by the freeze that it takes, gives back or hands over
call_moves : (setup : Setup) (before after : World) (number : ℕ) (run : LiveRun) (request : Request) (given : Answer) (between : World) → KeepsLists setup before → Calls before number request → run_of number before.runs.list ≡ Some run → after.transport.freezes ≡ between.transport.freezes → FreezeDeed setup before run request given between → MovesCounts before (executes number (call (told_of request))) (result given.r0) after
call_moves setup before after number run request given between kept calls found same (leaves_freezes effect) = effect.moves number after calls (same ∙ effect.freezes_is)
call_moves setup before after number run request given between kept calls found same (takes_one effect) =
    let above : eqb (before.transport.greatest_freeze + 1) 0 ≡ false = ne_eqb _ _ (λ e. omega (arith, e)) in
    rw effect.given_is (effect.moves number (before.transport.greatest_freeze + 1) after calls found
    (rw above (λ other. ap (frozen other) (same ∙ effect.freezes_is) ∙ frozen_push other before.transport.freezes _)))
call_moves setup before after number run request given between kept calls found same (gives_one_back effect) =
    moves_by effects.GiveBack request effect.deed_is before number (result given.r0) after (rw effect.given_is (record {
      number = request.arguments.first;
      count = _;
      asks = record { request = request; calls = calls; deed_is = effect.deed_is; number_is = refl };
      reply_is = refl;
      fewer = goes setup before after request.arguments.first effect.freeze kept effect.entry (same ∙ effect.freezes_is);
    }))
call_moves setup before after number run request given between kept calls found same (hands_one_over effect) =
    moves_by effects.HandOver request effect.deed_is before number (result given.r0) after
    (λ other. ap (frozen other) (same ∙ effect.freezes_is) ∙ frozen_handed_over other request.arguments.first (before.transport.clock + request.arguments.second) before.transport.freezes)

pub case_moves : (setup : Setup) (before : World) (event : Event) (reply : Reply) (after : World) → KeepsLists setup before → Case setup before event reply after → MovesCounts before event reply after
case_moves setup before event reply after kept (refuses it) = rw (it.reply_is, it.after_is) it.moves
case_moves setup before event reply after kept (submits it) = rw it.event_is (ap (λ (w : World). w.transport.freezes) it.after_is)
case_moves setup before event reply after kept (dispatches it) = rw it.event_is (ap (λ (w : World). w.transport.freezes) it.after_is)
case_moves setup before event reply after kept (finishes_one it) = rw (it.event_is, it.reply_is) (ap (λ (w : World). w.transport.freezes) it.after_is)
case_moves setup before event reply after kept (withdraws_one it) = rw it.event_is (ap (λ (w : World). w.transport.freezes) it.after_is)
case_moves setup before event reply after kept (recovers_one it) =
    let reply_is : reply ≡ replies (answers.Started (before.runs.greatest + 1) (before.transport.greatest_freeze + 1)) = ap (λ (x : Reply × World). x.0) it.starts_is in
    let is = ap (λ (x : Reply × World). x.1.transport.freezes) it.starts_is in
    let above : eqb (before.transport.greatest_freeze + 1) 0 ≡ false = ne_eqb _ _ (λ e. omega (arith, e)) in
    rw (it.fails.event_is, reply_is) (
      it.fails.live,
      it.fails.found,
      rw above (λ other. ap (frozen other) is ∙ frozen_push other before.transport.freezes _),
    )
case_moves setup before event reply after kept (recovers_unfrozen it) =
    let reply_is : reply ≡ replies (answers.Started (before.runs.greatest + 1) 0) = ap (λ (x : Reply × World). x.0) it.starts_is in
    rw (it.fails.event_is, reply_is) (it.fails.live, it.fails.found, λ other. omega (arith, ap (λ (x : Reply × World). frozen other x.1.transport.freezes) it.starts_is))
case_moves setup before event reply after kept (freezes_one it) =
    rw (it.event_is, it.reply_is) (λ other. ap (λ (w : World). frozen other w.transport.freezes) it.after_is ∙ frozen_push other before.transport.freezes _)
case_moves setup before event reply after kept (releases_one it) =
    rw it.event_is (_, it.reply_is, goes setup before after it.number it.freeze kept it.entry (ap (λ (w : World). w.transport.freezes) it.after_is))
case_moves setup before event reply after kept (reads_clock it) =
    rw (it.event_is, it.reply_is) (record {
      count_is = refl;
      fewer = λ other. ap (λ (w : World). frozen other w.transport.freezes + frozen other (due_at it.reading before.transport.freezes)) it.after_is ∙ frozen_due other it.reading before.transport.freezes;
    })
case_moves setup before event reply after kept (turns_one it) = rw it.reply_is (it.moves after (ap (λ (w : World). w.transport.freezes) it.after_is))
case_moves setup before event reply after kept (goes_on_one it) = rw it.it.event_is (ap (λ (w : World). w.transport.freezes) it.after_is)
case_moves setup before event reply after kept (asks_one it) =
    let reply_is : reply ≡ result it.given.r0 = ap (λ (x : Reply × World). x.0) it.answer in
    rw (it.it.event_is, reply_is) (call_moves setup before after it.it.number it.it.run it.request it.given it.between kept (it.it.run, it.it.found, it.call_is) it.it.found (ap (λ (x : Reply × World). x.1.transport.freezes) it.answer) it.freezes)
case_moves setup before event reply after kept (exits it) = rw it.it.event_is (ap (λ (w : World). w.transport.freezes) it.after_is)

pub counts_are_entries : CountsAreEntries
counts_are_entries setup xs before run event reply after e = case_moves setup before event reply after (lists_are_kept setup xs before run) (case_of setup before event reply after e)
