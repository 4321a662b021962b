-- The deeds of the helpers: one entry a deed, with all that the laws want of it. A further deed is one entry here, and what
-- the other columns of its rows are. What the entries go by is `Entries`.
use Rattle.std.proofs.Common.{◌≡◌, ℕ, ◌+◌, ◌%◌, ◌^◌, ◌<◌, ◌≤◌, [], ◌∷◌, Bool, true, false, cond, eqb, slice_index, slice_set, Option, Some, None, inl, inr, refl, ap, sym, subst, ◌∙◌, rules, arith}
use Rattle.std.proofs.lemmas.Bool.{cases_Bool, cond-true, cond-false, ltb-true, lt-leb, and_right, not-true}
use Rattle.std.proofs.lemmas.List.Elements.{All-get_or}
use Rattle.ccb.specs.Ccb.{advised, requeued}
use Rattle.freeze_ledger.specs.declared.freeze.Holder.TheVariants.{Run}
use Rattle.freeze_ledger.specs.declared.freeze.Freeze.{Freeze}
use Rattle.freeze_ledger.specs.Freezes.{frozen, meets_limit, entry_of, without}
use Rattle.helpers.specs.declared.limits.HelperLimits.{HelperLimits}
use Rattle.helpers.specs.declared.table.Helper.{Helper}
use Rattle.helpers.specs.declared.table.Helper.TheVariants as helpers
use Rattle.helpers.specs.declared.table.HelperEffect.{HelperEffect}
use Rattle.helpers.specs.declared.table.HelperEffect.TheVariants as effects
use Rattle.helpers.specs.declared.table.Row.{Row}
use Rattle.helpers.specs.declared.columns.ArgKind.{ArgKind}
use Rattle.helpers.specs.declared.columns.ArgKind.TheVariants as asked_for
use Rattle.helpers.specs.declared.columns.Needs.{Needs}
use Rattle.helpers.specs.declared.columns.Needs.TheVariants as needs
use Rattle.helpers.specs.declared.columns.Gives.TheVariants.{Number, NewFreeze}
use Rattle.helpers.specs.declared.columns.Change.{Change}
use Rattle.helpers.specs.declared.columns.Change.TheVariants as changes
use Rattle.helpers.specs.declared.columns.Tells.{Tells}
use Rattle.helpers.specs.declared.columns.Tells.TheVariants as tells
use Rattle.helpers.specs.declared.request.Request.{Request}
use Rattle.helpers.specs.Table.{row_of, answer_number, is_there}
use Rattle.bpf_semantics.specs.MachineState.{MachineState}
use Rattle.bpf_semantics.specs.Calls.{meets_need, meets_rule}
use Rattle.bpf_semantics.specs.Step.{changed_by, after_call}
use Rattle.table_store.specs.Tables.{HasWord}
use Rattle.world.specs.declared.ccb_state.CcbState.TheVariants.{Waiting}
use Rattle.world.specs.Capacities.{most_openings}
use Rattle.ccb.specs.declared.place.Place.{Place}
use Rattle.ccb.specs.declared.place.Place.TheVariants.{Controller}
use Rattle.ccb.specs.Places.{device, is_place}
use Rattle.world.specs.World.{Setup, QueueSetup, no_queue, LiveCcb, LiveRun, World}
use Rattle.world.specs.Lookups.{ccb_of, with_ccb, run_of}
use Rattle.world.specs.QueueInfo.{queue_info}
use Rattle.world.specs.Told.{told_by}
use Rattle.world.specs.Event.{Reply, result}
use Rattle.world.specs.FreezeSteps.{frozen_with, froze, thawed, timed}
use Rattle.world.specs.CcbSteps.{ended_with}
use Rattle.world.specs.RunSteps.{is_run, answers, takes, releases, hands_over, requeues, finishes, advises, its_word, with_its_word, info_answer, by_effect, step_request}
use Rattle.world.specs.Refusals.{is_unknown}
use Rattle.world.specs.Laws.FreezeLaws.{Calls, MovesByEffect}
use Rattle.world.specs.Limits.{AnswerLimits, NamesNoOther}
use Rattle.world.proofs.Steps.Answering.{openings_stay, openings_change, tables_stay, word_changes, word_below, openings_within}
use Rattle.world_laws.proofs.Telling.{info_wrote}
use Rattle.world_laws.proofs.Alike.{changed, AlikeOr, neither, an_event, one_of, if_so, changes as both_change}
use Rattle.world_laws.proofs.Steps.Running.{some_is}
use Rattle.world_laws.proofs.Steps.Rules.{rule_parts, first_as, word_there, first_within}
use Rattle.world_laws.proofs.Steps.Does.{AnswersFrom, IsAmong, leaves_freezes, takes_one, gives_one_back, hands_one_over, leaves_ccbs, requeues_one, ends_one, advises_one, Does, moves_by, disposes_by}
use Rattle.world_laws.proofs.Entries.{Columns, OnlyAnswers, HasItsOwn, LeadsOn, Entry, Reads, reads, nothing_set, staying, calm, named_alone, calmly, plain_row}

-- What the other columns of a row with a deed are.

-- one that names a word of a table
abbrev pub NamesWord : Option ArgKind → Row → Type 0
NamesWord third row = Columns (Some asked_for.Table) (Some asked_for.Index) third needs.Nothing (Number 0 18446744073709551615) changes.Nothing tells.Name row

abbrev pub Suits : HelperEffect → Row → Type 0
Suits effects.Nothing row = OnlyAnswers 0 0 row
Suits effects.Freeze row = Columns (Some asked_for.Queue) None None needs.Room NewFreeze changes.Holds tells.Name row
Suits effects.GiveBack row = Columns (Some asked_for.HeldFreeze) None None needs.Nothing (Number 0 254) changes.GivesUp tells.Name row
Suits effects.HandOver row = Columns (Some asked_for.HeldFreeze) (Some (asked_for.Within 1 600000)) None needs.Nothing (Number 0 0) changes.GivesUp tells.Name row
Suits effects.Requeue row = Columns (Some (asked_for.Within 0 1)) None None needs.Undisposed (Number 0 0) changes.Disposes tells.Name row
Suits effects.Finish row = Columns (Some (asked_for.Within 0 63)) None None needs.Undisposed (Number 0 0) changes.Disposes tells.Code row
Suits effects.GetWord row = NamesWord None row
Suits effects.PutWord row = NamesWord (Some asked_for.Word) row
Suits effects.AddWord row = NamesWord (Some asked_for.Word) row
Suits effects.TellQueue row = Columns (Some (asked_for.Room 16)) None None needs.Nothing (Number 0 0) (changes.Writes 16) tells.Name row
Suits effects.TellClock row = OnlyAnswers 0 4611686018427387904 row
Suits effects.SetOpenings row = Columns (Some (asked_for.Within 1 255)) None None needs.Nothing (Number 1 255) changes.Nothing tells.Name row
Suits effects.FreezeController row = Columns None None None needs.Room NewFreeze changes.Holds tells.Name row × (row.helper ≡ helpers.FreezeController)
Suits effects.TellController row = OnlyAnswers 0 255 row
Suits effects.Advise row = Columns (Some (asked_for.Within 0 4294967295)) None None needs.Undisposed (Number 0 0) changes.Nothing tells.Name row

-- the row of a helper names it
rows_name : (name : Helper) → (row_of name).helper ≡ name
unfolding row_of
rows_name name = search rules

-- the one helper that advises is of that name
abbrev IsAdvising : HelperEffect → Row → Type 0
IsAdvising effects.Advise row = row.helper ≡ helpers.Advise
IsAdvising other row = Unit {0}

advising : (name : Helper) → IsAdvising (row_of name).effect (row_of name)
unfolding row_of
advising name = search rules

pub advises_alone : (request : Request) → (row_of request.helper).effect ≡ effects.Advise → request.helper ≡ helpers.Advise
advises_alone request is =
    sym (rows_name request.helper) ∙ subst (λ (d : HelperEffect). IsAdvising d (row_of request.helper)) is (advising request.helper)

-- what a row has whose deed freezes a place
pub record FreezesByRow (row : Row) : Type 0 where
  pub machine_is : row.machine ≡ changes.Holds
  pub gives_is : row.gives ≡ NewFreeze
  pub tells_is : row.tells ≡ tells.Name

pub suited : (name : Helper) → Suits (row_of name).effect (row_of name)
unfolding row_of
suited name = search rules

-- the columns of the helper that a request calls, whose deed is known
pub suits : (effect : HelperEffect) (request : Request) → (row_of request.helper).effect ≡ effect → Suits effect (row_of request.helper)
suits effect request is = subst (λ (d : HelperEffect). Suits d (row_of request.helper)) is (suited request.helper)

-- the run has not disposed of its CCB
fresh_by : (limits : HelperLimits) (m : MachineState) (request : Request) → (row_of request.helper).needs ≡ needs.Undisposed → meets_rule limits m request ≡ true → m.disposed ≡ false
fresh_by limits m request is rule =
    not-true m.disposed (subst (λ (n : Needs). meets_need m n ≡ true) is (rule_parts limits m request rule).need)

-- The entries.

pub nothing : Reads effects.Nothing (λ world run request. 0) 0 0
nothing = record {
  columns = suits effects.Nothing;
  step = λ world run request. refl;
  apart = λ c world run request. refl;
  within = λ setup world run request from. (omega arith, omega arith);
  moves = λ before number reply after same. same;
}

-- a deed that freezes this place, with what the laws want of it beside what is common
pub record FreezesPlace (effect : HelperEffect) (place_of : LiveRun → Request → Place) : Type 0 where
  pub columns : (request : Request) → (row_of request.helper).effect ≡ effect → FreezesByRow (row_of request.helper)
  pub step : (world : World) (run : LiveRun) (request : Request) → by_effect effect world run request ≡ Some (takes world run request (place_of run request))
  pub known : (setup : Setup) (run : LiveRun) (request : Request) → (row_of request.helper).effect ≡ effect → meets_rule setup.limits run.machine request ≡ true → NamesNoOther setup → IsAmong setup run → is_unknown setup (place_of run request) ≡ false
  pub moves :
      (before : World) (run : LiveRun) (request : Request) → (row_of request.helper).effect ≡ effect → (number freeze : ℕ) (after : World) → Calls before number request → run_of number before.runs.list ≡ Some run →
      ((other : Place) → frozen other after.transport.freezes ≡ frozen other before.transport.freezes + cond (eqb freeze 0) 0 (cond (is_place (place_of run request) other) 1 0)) →
      MovesByEffect effect before number (result freeze) after
  pub moves_none : (before : World) (request : Request) → (row_of request.helper).effect ≡ effect → (number : ℕ) (after : World) → Calls before number request → after.transport.freezes ≡ before.transport.freezes → MovesByEffect effect before number (result 0) after

-- a call for a freeze: it is taken, or the answer is 0
takes_place : (effect : HelperEffect) (place_of : LiveRun → Request → Place) → FreezesPlace effect place_of → Entry effect
takes_place effect place_of its = record {
  leads = λ limits world run request is own rule. (_, its.step world run request);
  alike = λ r c named w run apart request.
      subst (λ (o : Option (Reply × World)). AlikeOr r c named w o (by_effect effect (changed c w) run request)) (sym (its.step w run request))
      (subst (λ (o : Option (Reply × World)). AlikeOr r c named w (Some (takes w run request (place_of run request))) o) (sym (its.step (changed c w) run request))
      (an_event r c named w _ _
      (one_of r c named w (meets_limit (place_of run request) w.transport.freezes w.transport.greatest_freeze) _ _ _ _ (both_change r c named w _ w _ refl apart)
      (both_change r c named w _ (froze w (place_of run request) (Run run.number)) _ refl apart))));
  does = λ setup before run request is rule p e. does setup before run request is rule p (sym (its.step before run request) ∙ e);
}
  where
    does : (setup : Setup) (before : World) (run : LiveRun) (request : Request) → (row_of request.helper).effect ≡ effect → meets_rule setup.limits run.machine request ≡ true → (p : Reply × World) → Some (takes before run request (place_of run request)) ≡ Some p → Does setup before run request p
    does setup before run request is rule p e =
        let columns = its.columns request is in
        let place : Place = place_of run request in
        let no_code = named_alone request columns.tells_is in
        elim (cases_Bool (meets_limit place before.transport.freezes before.transport.greatest_freeze)) [
          | inl full ↦
              calmly setup before run request (answer_number 0) before
              (staying setup before run request (answer_number 0) before effect NewFreeze changes.Holds (record {
                deed_is = is;
                gives_is = columns.gives_is;
                machine_is = columns.machine_is;
                keeps = refl;
                held = refl;
                answer = λ from. inl refl;
                written = tt;
                taken = λ other number. ap (λ (b : Bool). cond b (0 ∷ []) []) (and_right (eqb number other) false refl);
                moves = λ number after calls same. its.moves_none before request is number after calls same;
              }) refl refl)
              (calm before run request (answer_number 0) before changes.Holds columns.machine_is no_code refl refl refl refl refl)
              (nothing_set before before refl refl refl refl refl) p
              (sym (ap Some (cond-true (meets_limit place before.transport.freezes before.transport.greatest_freeze) _ _ full)) ∙ e)
          | inr room ↦ record {
            given = answer_number (before.transport.greatest_freeze + 1);
            between = froze before place (Run run.number);
            answer = some_is _ _ e ∙ cond-false (meets_limit place before.transport.freezes before.transport.greatest_freeze) _ _ room;
            freezes = takes_one (record {
              place = place;
              machine_is = columns.machine_is;
              gives_is = columns.gives_is;
              known = its.known setup run request is rule;
              moves = λ number freeze after calls found more. moves_by effect request is before number (result freeze) after (its.moves before run request is number freeze after calls found more);
              room = room;
              given_is = refl;
              freezes_is = refl;
              greatest_is = refl;
            });
            ccbs = leaves_ccbs (calm before run request _ _ changes.Holds columns.machine_is no_code refl refl refl refl refl);
            rest = nothing_set before _ refl refl refl refl refl;
          }
        ]

freezes_queue : FreezesPlace effects.Freeze (λ run request. device request.arguments.first)
freezes_queue = record {
  columns = λ request is. let columns = suits effects.Freeze request is in record { machine_is = columns.machine_is; gives_is = columns.gives_is; tells_is = columns.tells_is };
  step = λ world run request. refl;
  known = λ setup run request is rule names among.
      let first : request.arguments.first < setup.limits.queues = ltb-true _ _ (first_as setup.limits run.machine request (Some asked_for.Queue) (suits effects.Freeze request is).first_is rule) in
      lt-leb _ _ (omega (arith, first, names.queues));
  moves = λ before run request is number freeze after calls found more. record {
    place = device request.arguments.first;
    freeze = freeze;
    asks = (request.arguments.first, record { request = request; calls = calls; deed_is = is; number_is = refl }, refl);
    reply_is = refl;
    more = more;
  };
  moves_none = λ before request is number after calls same. record {
    place = device request.arguments.first;
    freeze = 0;
    asks = (request.arguments.first, record { request = request; calls = calls; deed_is = is; number_is = refl }, refl);
    reply_is = refl;
    more = λ other. omega (arith, ap (frozen other) same);
  };
}

-- the helper that freezes a controller is there, and so is each queue's controller
controller_known : (setup : Setup) (run : LiveRun) (request : Request) → (row_of request.helper).effect ≡ effects.FreezeController → meets_rule setup.limits run.machine request ≡ true → NamesNoOther setup → IsAmong setup run → is_unknown setup (Controller run.controller) ≡ false
controller_known setup run request is rule names among =
    let its : request.helper ≡ helpers.FreezeController = sym (rows_name request.helper) ∙ (suits effects.FreezeController request is).1 in
    let there : is_there setup.limits.helpers helpers.FreezeController ≡ true = subst (λ (h : Helper). is_there setup.limits.helpers h ≡ true) its (rule_parts setup.limits run.machine request rule).there in
    let below = All-get_or (λ (queue : QueueSetup). queue.controller < setup.controllers) setup.queues run.queue no_queue among.0 (names.controllers there) in
    lt-leb _ _ (rw among.1 below)

freezes_controller : FreezesPlace effects.FreezeController (λ run request. Controller run.controller)
freezes_controller = record {
  columns = λ request is. let columns = (suits effects.FreezeController request is).0 in record { machine_is = columns.machine_is; gives_is = columns.gives_is; tells_is = columns.tells_is };
  step = λ world run request. refl;
  known = λ setup run request is rule names among. controller_known setup run request is rule names among;
  moves = λ before run request is number freeze after calls found more. record {
    place = Controller run.controller;
    freeze = freeze;
    asks = (run, found, refl, (request.arguments.first, record { request = request; calls = calls; deed_is = is; number_is = refl }));
    reply_is = refl;
    more = more;
  };
  moves_none = λ before request is number after calls same. record {
    place = Controller calls.0.controller;
    freeze = 0;
    asks = (calls.0, calls.1, refl, (request.arguments.first, record { request = request; calls = calls; deed_is = is; number_is = refl }));
    reply_is = refl;
    more = λ other. omega (arith, ap (frozen other) same);
  };
}

pub tell_controller : Reads effects.TellController (λ world run request. frozen (Controller run.controller) world.transport.freezes) 0 255
tell_controller = record {
  columns = suits effects.TellController;
  step = λ world run request. refl;
  apart = λ c world run request. refl;
  within = λ setup world run request from. (omega arith, from.kept.freezes.a_place (Controller run.controller));
  moves = λ before number reply after same. same;
}

-- the freeze that a call names is held, and there, and the run's own
its_freeze : (limits : HelperLimits) (world : World) (run : LiveRun) (request : Request) → (row_of request.helper).asks.first ≡ Some asked_for.HeldFreeze → HasItsOwn world run → meets_rule limits run.machine request ≡ true → (freeze : Freeze) × (entry_of request.arguments.first world.transport.freezes ≡ Some freeze) × (is_run run.number freeze.holder ≡ true)
its_freeze limits world run request first own rule =
    own.freezes request.arguments.first (first_as limits run.machine request (Some asked_for.HeldFreeze) first rule)

give_back : Entry effects.GiveBack
give_back = record {
  leads = λ limits world run request is own rule.
      let its = its_freeze limits world run request (suits effects.GiveBack request is).first_is own rule in
      (_, ap (releases world run request) its.1 ∙ cond-true (is_run run.number its.0.holder) _ None its.2);
  alike = λ r c named w run apart request. alike r c named w run apart request (entry_of request.arguments.first w.transport.freezes);
  does = λ setup before run request is rule p. does setup before run request is p (entry_of request.arguments.first before.transport.freezes) refl;
}
  where
    alike : (r : ℕ) (c : LiveRun) (named : c.number ≡ r) (w : World) (run : LiveRun) → (run.number ≡ r → ⊥) → (request : Request) (o : Option Freeze) → AlikeOr r c named w (releases w run request o) (releases (changed c w) run request o)
    alike r c named w run apart request None = neither r c named w
    alike r c named w run apart request (Some freeze) = if_so r c named w _ _ _ (an_event r c named w _ _ (both_change r c named w _ (thawed w request.arguments.first) _ refl apart))

    does : (setup : Setup) (before : World) (run : LiveRun) (request : Request) → (row_of request.helper).effect ≡ effects.GiveBack → (p : Reply × World) (o : Option Freeze) → entry_of request.arguments.first before.transport.freezes ≡ o → releases before run request o ≡ Some p → Does setup before run request p
    does setup before run request is p None entry e = absurd cc
    does setup before run request is p (Some f) entry e =
        let columns = suits effects.GiveBack request is in
        elim (cases_Bool (is_run run.number f.holder)) [
          | inl its ↦ record {
            given = answer_number (frozen_with f (without request.arguments.first before.transport.freezes));
            between = thawed before request.arguments.first;
            answer = some_is _ _ (sym (cond-true (is_run run.number f.holder) _ _ its) ∙ e);
            freezes = gives_one_back (record { deed_is = is; machine_is = columns.machine_is; gives_is = columns.gives_is; freeze = f; entry = entry; its = its; given_is = refl; freezes_is = refl; greatest_is = refl });
            ccbs = leaves_ccbs (calm before run request _ _ changes.GivesUp columns.machine_is (named_alone request columns.tells_is) refl refl refl refl refl);
            rest = nothing_set before _ refl refl refl refl refl;
          }
          | inr other ↦ let none = sym (cond-false (is_run run.number f.holder) _ _ other) ∙ e in absurd cc
        ]

hand_over : Entry effects.HandOver
hand_over = record {
  leads = λ limits world run request is own rule.
      let its = its_freeze limits world run request (suits effects.HandOver request is).first_is own rule in
      (_, ap (hands_over world run request) its.1 ∙ cond-true (is_run run.number its.0.holder) _ None its.2);
  alike = λ r c named w run apart request. alike r c named w run apart request (entry_of request.arguments.first w.transport.freezes);
  does = λ setup before run request is rule p. does setup before run request is p (entry_of request.arguments.first before.transport.freezes) refl;
}
  where
    alike : (r : ℕ) (c : LiveRun) (named : c.number ≡ r) (w : World) (run : LiveRun) → (run.number ≡ r → ⊥) → (request : Request) (o : Option Freeze) → AlikeOr r c named w (hands_over w run request o) (hands_over (changed c w) run request o)
    alike r c named w run apart request None = neither r c named w
    alike r c named w run apart request (Some freeze) =
        if_so r c named w _ _ _ (an_event r c named w _ _ (both_change r c named w _ (timed w request.arguments.first (w.transport.clock + request.arguments.second)) _ refl apart))

    does : (setup : Setup) (before : World) (run : LiveRun) (request : Request) → (row_of request.helper).effect ≡ effects.HandOver → (p : Reply × World) (o : Option Freeze) → entry_of request.arguments.first before.transport.freezes ≡ o → hands_over before run request o ≡ Some p → Does setup before run request p
    does setup before run request is p None entry e = absurd cc
    does setup before run request is p (Some f) entry e =
        let columns = suits effects.HandOver request is in
        elim (cases_Bool (is_run run.number f.holder)) [
          | inl its ↦ record {
            given = answer_number 0;
            between = timed before request.arguments.first (before.transport.clock + request.arguments.second);
            answer = some_is _ _ (sym (cond-true (is_run run.number f.holder) _ _ its) ∙ e);
            freezes = hands_one_over (record { deed_is = is; machine_is = columns.machine_is; gives_is = columns.gives_is; freeze = f; entry = entry; its = its; given_is = refl; freezes_is = refl; greatest_is = refl });
            ccbs = leaves_ccbs (calm before run request _ _ changes.GivesUp columns.machine_is (named_alone request columns.tells_is) refl refl refl refl refl);
            rest = nothing_set before _ refl refl refl refl refl;
          }
          | inr other ↦ let none = sym (cond-false (is_run run.number f.holder) _ _ other) ∙ e in absurd cc
        ]

-- the run's CCB is there
its_ccb : (limits : HelperLimits) (world : World) (run : LiveRun) (request : Request) → (row_of request.helper).needs ≡ needs.Undisposed → HasItsOwn world run → meets_rule limits run.machine request ≡ true → (live : LiveCcb) × (ccb_of run.ccb world.transport.live ≡ Some live)
its_ccb limits world run request need own rule = own.ccb (fresh_by limits run.machine request need rule)

requeue : Entry effects.Requeue
requeue = record {
  leads = λ limits world run request is own rule. (_, ap (requeues world run request) (its_ccb limits world run request (suits effects.Requeue request is).needs_is own rule).1);
  alike = λ r c named w run apart request. alike r c named w run apart request (ccb_of run.ccb w.transport.live);
  does = λ setup before run request is rule p. does setup before run request is rule p (ccb_of run.ccb before.transport.live) refl;
}
  where
    alike : (r : ℕ) (c : LiveRun) (named : c.number ≡ r) (w : World) (run : LiveRun) → (run.number ≡ r → ⊥) → (request : Request) (o : Option LiveCcb) → AlikeOr r c named w (requeues w run request o) (requeues (changed c w) run request o)
    alike r c named w run apart request None = neither r c named w
    alike r c named w run apart request (Some live) = an_event r c named w _ _ (both_change r c named w _ (record w { transport = record w.transport { live = _ } }) _ refl apart)

    does : (setup : Setup) (before : World) (run : LiveRun) (request : Request) → (row_of request.helper).effect ≡ effects.Requeue → meets_rule setup.limits run.machine request ≡ true → (p : Reply × World) (o : Option LiveCcb) → ccb_of run.ccb before.transport.live ≡ o → requeues before run request o ≡ Some p → Does setup before run request p
    does setup before run request is rule p None found e = absurd cc
    does setup before run request is rule p (Some live) found e =
        let columns = suits effects.Requeue request is in
        let between : World = record before { transport = record before.transport { live = with_ccb (record { ccb = requeued live.ccb request.arguments.first; state = Waiting }) before.transport.live } } in
        record {
          given = answer_number 0;
          between = between;
          answer = some_is _ _ e;
          freezes = leaves_freezes (staying setup before run request (answer_number 0) between effects.Requeue (Number 0 0) changes.Disposes (record {
            deed_is = is;
            gives_is = columns.gives_is;
            machine_is = columns.machine_is;
            keeps = refl;
            held = refl;
            answer = λ from. (omega arith, omega arith);
            written = tt;
            taken = λ other number. refl;
            moves = λ number after calls same. same;
          }) refl refl);
          ccbs = requeues_one (record {
            deed_is = is;
            machine_is = columns.machine_is;
            told_is = ap (λ (t : Tells). told_by t request) columns.tells_is;
            its = record { fresh = fresh_by setup.limits run.machine request columns.needs_is rule; live = live; found = found };
            live_is = refl;
            ended_is = refl;
            greatest_is = refl;
          });
          rest = nothing_set before _ refl refl refl refl refl;
        }

finish : Entry effects.Finish
finish = record {
  leads = λ limits world run request is own rule. (_, ap (finishes world run request) (its_ccb limits world run request (suits effects.Finish request is).needs_is own rule).1);
  alike = λ r c named w run apart request. alike r c named w run apart request (ccb_of run.ccb w.transport.live);
  does = λ setup before run request is rule p. does setup before run request is rule p (ccb_of run.ccb before.transport.live) refl;
}
  where
    alike : (r : ℕ) (c : LiveRun) (named : c.number ≡ r) (w : World) (run : LiveRun) → (run.number ≡ r → ⊥) → (request : Request) (o : Option LiveCcb) → AlikeOr r c named w (finishes w run request o) (finishes (changed c w) run request o)
    alike r c named w run apart request None = neither r c named w
    alike r c named w run apart request (Some live) = an_event r c named w _ _ (both_change r c named w _ (ended_with w live.ccb request.arguments.first) _ refl apart)

    does : (setup : Setup) (before : World) (run : LiveRun) (request : Request) → (row_of request.helper).effect ≡ effects.Finish → meets_rule setup.limits run.machine request ≡ true → (p : Reply × World) (o : Option LiveCcb) → ccb_of run.ccb before.transport.live ≡ o → finishes before run request o ≡ Some p → Does setup before run request p
    does setup before run request is rule p None found e = absurd cc
    does setup before run request is rule p (Some live) found e =
        let columns = suits effects.Finish request is in
        let between : World = ended_with before live.ccb request.arguments.first in
        record {
          given = answer_number 0;
          between = between;
          answer = some_is _ _ e;
          freezes = leaves_freezes (staying setup before run request (answer_number 0) between effects.Finish (Number 0 0) changes.Disposes (record {
            deed_is = is;
            gives_is = columns.gives_is;
            machine_is = columns.machine_is;
            keeps = refl;
            held = refl;
            answer = λ from. (omega arith, omega arith);
            written = tt;
            taken = λ other number. refl;
            moves = λ number after calls same. same;
          }) refl refl);
          ccbs = ends_one (record {
            deed_is = is;
            machine_is = columns.machine_is;
            told_is = ap (λ (t : Tells). told_by t request) columns.tells_is;
            its = record { fresh = fresh_by setup.limits run.machine request columns.needs_is rule; live = live; found = found };
            live_is = refl;
            ended_is = refl;
            greatest_is = refl;
          });
          rest = nothing_set before _ refl refl refl refl refl;
        }

advise : Entry effects.Advise
advise = record {
  leads = λ limits world run request is own rule. (_, ap (advises world run request) (its_ccb limits world run request (suits effects.Advise request is).needs_is own rule).1);
  alike = λ r c named w run apart request. alike r c named w run apart request (ccb_of run.ccb w.transport.live);
  does = λ setup before run request is rule p. does setup before run request is rule p (ccb_of run.ccb before.transport.live) refl;
}
  where
    alike : (r : ℕ) (c : LiveRun) (named : c.number ≡ r) (w : World) (run : LiveRun) → (run.number ≡ r → ⊥) → (request : Request) (o : Option LiveCcb) → AlikeOr r c named w (advises w run request o) (advises (changed c w) run request o)
    alike r c named w run apart request None = neither r c named w
    alike r c named w run apart request (Some live) = an_event r c named w _ _ (both_change r c named w _ (record w { transport = record w.transport { live = _ } }) _ refl apart)

    does : (setup : Setup) (before : World) (run : LiveRun) (request : Request) → (row_of request.helper).effect ≡ effects.Advise → meets_rule setup.limits run.machine request ≡ true → (p : Reply × World) (o : Option LiveCcb) → ccb_of run.ccb before.transport.live ≡ o → advises before run request o ≡ Some p → Does setup before run request p
    does setup before run request is rule p None found e = absurd cc
    does setup before run request is rule p (Some live) found e =
        let columns = suits effects.Advise request is in
        let told : LiveCcb = record live { ccb = advised live.ccb request.arguments.first } in
        let between : World = record before { transport = record before.transport { live = with_ccb told before.transport.live } } in
        record {
          given = answer_number 0;
          between = between;
          answer = some_is _ _ e;
          freezes = leaves_freezes (staying setup before run request (answer_number 0) between effects.Advise (Number 0 0) changes.Nothing (record {
            deed_is = is;
            gives_is = columns.gives_is;
            machine_is = columns.machine_is;
            keeps = refl;
            held = refl;
            answer = λ from. (omega arith, omega arith);
            written = tt;
            taken = λ other number. refl;
            moves = λ number after calls same. same;
          }) refl refl);
          ccbs = advises_one (record {
            helper_is = advises_alone request is;
            told_is = ap (λ (t : Tells). told_by t request) columns.tells_is;
            calm = disposes_by changes.Nothing request columns.machine_is;
            disposed = ap (λ (c : Change). (changed_by c request.arguments (answer_number 0) (after_call run.machine 0)).disposed) columns.machine_is;
            its = record { fresh = fresh_by setup.limits run.machine request columns.needs_is rule; live = live; found = found };
            live_is = refl;
            ended_is = refl;
            greatest_is = refl;
          });
          rest = nothing_set before _ refl refl refl refl refl;
        }

-- a word of a table is one of 64 bits
its_word_below : (setup : Setup) (world : World) (run : LiveRun) (request : Request) → AnswersFrom setup world run → its_word world request ≤ 18446744073709551615
its_word_below setup world run request from = omega (arith, word_below world.runs.tables request.arguments.first request.arguments.second from.kept.answers.words)

pub get_word : Reads effects.GetWord (λ world run request. its_word world request) 0 18446744073709551615
get_word = record {
  columns = λ request is. let columns = suits effects.GetWord request is in record { gives_is = columns.gives_is; machine_is = columns.machine_is; no_code = named_alone request columns.tells_is };
  step = λ world run request. refl;
  apart = λ c world run request. refl;
  within = λ setup world run request from. (omega arith, its_word_below setup world run request from);
  moves = λ before number reply after same. same;
}

-- a call that writes the word that it names, and answers a word
writes_word : (setup : Setup) (before : World) (run : LiveRun) (request : Request) (word given : ℕ) (effect : HelperEffect) → (row_of request.helper).effect ≡ effect → NamesWord (Some asked_for.Word) (row_of request.helper) → ((number : ℕ) (after : World) → after.transport.freezes ≡ before.transport.freezes → MovesByEffect effect before number (result given) after) → word < 2 ^ 64 → (AnswersFrom setup before run → given ≤ 18446744073709551615) → (p : Reply × World) → Some (answers (with_its_word before request word) run request (answer_number given)) ≡ Some p → Does setup before run request p
writes_word setup before run request word given effect is columns moves below most =
    plain_row setup before run request (answer_number given) before.transport.openings (with_its_word before request word).runs.tables effect _ _ _ 0 18446744073709551615 changes.Nothing is columns tt moves
    (λ from. (omega arith, most from)) tt (openings_stay refl) (word_changes request.arguments.first request.arguments.second word below refl)

put_word : Entry effects.PutWord
put_word = record {
  leads = λ limits world run request is own rule. (_, refl);
  alike = λ r c named w run apart request. an_event r c named w _ _ (both_change r c named w _ (with_its_word w request _) _ refl apart);
  does = λ setup before run request is rule.
      writes_word setup before run request (request.arguments.third % 2 ^ 64) (its_word before request) effects.PutWord is (suits effects.PutWord request is) (λ number after same. same) (omega arith)
      (its_word_below setup before run request);
}

add_word : Entry effects.AddWord
add_word = record {
  leads = λ limits world run request is own rule. (_, refl);
  alike = λ r c named w run apart request. an_event r c named w _ _ (both_change r c named w _ (with_its_word w request _) _ refl apart);
  does = λ setup before run request is rule.
      let sum : ℕ = (its_word before request + request.arguments.third) % 2 ^ 64 in
      writes_word setup before run request sum sum effects.AddWord is (suits effects.AddWord request is) (λ number after same. same) (omega arith) (λ from. omega arith);
}

tell_queue : Entry effects.TellQueue
tell_queue = record {
  leads = λ limits world run request is own rule. (_, refl);
  alike = λ r c named w run apart request. an_event r c named w _ _ (both_change r c named w _ w _ refl apart);
  does = λ setup before run request is rule.
      plain_row setup before run request (info_answer before run request.arguments.first) before.transport.openings before.runs.tables effects.TellQueue _ _ _ 0 0 (changes.Writes 16) is (suits effects.TellQueue request is) tt (λ number after same. same)
      (λ from. (omega arith, omega arith)) (info_wrote request.arguments.first (queue_info before run.queue)) (openings_stay refl) (tables_stay refl);
}

pub tell_clock : Reads effects.TellClock (λ world run request. world.transport.clock) 0 4611686018427387904
tell_clock = record {
  columns = suits effects.TellClock;
  step = λ world run request. refl;
  apart = λ c world run request. refl;
  within = λ setup world run request from. (omega arith, from.kept.answers.clock);
  moves = λ before number reply after same. same;
}

-- openings that a call sets are openings
pub openings_to_set : (limits : HelperLimits) (m : MachineState) (request : Request) → (row_of request.helper).effect ≡ effects.SetOpenings → meets_rule limits m request ≡ true → (1 ≤ request.arguments.first) × (request.arguments.first ≤ most_openings)
openings_to_set limits m request is rule = first_within limits m request 1 255 (suits effects.SetOpenings request is).first_is rule

set_openings : Entry effects.SetOpenings
set_openings = record {
  leads = λ limits world run request is own rule. (_, refl);
  alike = λ r c named w run apart request. an_event r c named w _ _ (both_change r c named w _ (record w { transport = record w.transport { openings = _ } }) _ refl apart);
  does = λ setup before run request is rule.
      let within = openings_to_set setup.limits run.machine request is rule in
      plain_row setup before run request (answer_number (slice_index before.transport.openings run.queue)) (slice_set before.transport.openings run.queue request.arguments.first) before.runs.tables effects.SetOpenings _ _ _ 1 255 changes.Nothing is (suits effects.SetOpenings request is) tt (λ number after same. same)
      (λ from. openings_within setup before run.queue from.kept.answers from.queue) tt (openings_change run.queue request.arguments.first within.0 within.1 refl) (tables_stay refl);
}

entry_for : (effect : HelperEffect) → Entry effect
entry_for effects.Nothing = reads _ _ _ _ nothing
entry_for effects.Freeze = takes_place _ _ freezes_queue
entry_for effects.GiveBack = give_back
entry_for effects.HandOver = hand_over
entry_for effects.Requeue = requeue
entry_for effects.Finish = finish
entry_for effects.GetWord = reads _ _ _ _ get_word
entry_for effects.PutWord = put_word
entry_for effects.AddWord = add_word
entry_for effects.TellQueue = tell_queue
entry_for effects.TellClock = reads _ _ _ _ tell_clock
entry_for effects.SetOpenings = set_openings
entry_for effects.FreezeController = takes_place _ _ freezes_controller
entry_for effects.TellController = reads _ _ _ _ tell_controller
entry_for effects.Advise = advise

-- What they say of calls.

-- a call by its rule leads on
pub leads_on : (limits : HelperLimits) (world : World) (run : LiveRun) (request : Request) → HasItsOwn world run → meets_rule limits run.machine request ≡ true → LeadsOn (step_request world run request)
leads_on limits world run request own rule = (entry_for (row_of request.helper).effect).leads limits world run request refl own rule

-- no call minds a change of another run
pub requests_alike : (r : ℕ) (c : LiveRun) (named : c.number ≡ r) (w : World) (run : LiveRun) → (run.number ≡ r → ⊥) → (request : Request) → AlikeOr r c named w (step_request w run request) (step_request (changed c w) run request)
requests_alike r c named w run apart request = (entry_for (row_of request.helper).effect).alike r c named w run apart request

-- and what each does
pub does_all : (setup : Setup) (before : World) (run : LiveRun) (request : Request) → meets_rule setup.limits run.machine request ≡ true → (p : Reply × World) → step_request before run request ≡ Some p → Does setup before run request p
does_all setup before run request rule p e = (entry_for (row_of request.helper).effect).does setup before run request refl rule p e

-- a word that a call names is there
pub word_named : (setup : Setup) (world : World) (m : MachineState) (request : Request) (third : Option ArgKind) → AnswerLimits setup world → NamesWord third (row_of request.helper) → meets_rule setup.limits m request ≡ true → HasWord world.runs.tables request.arguments.first request.arguments.second
word_named setup world m request third kept columns rule = word_there setup world m request kept columns.first_is columns.second_is rule
