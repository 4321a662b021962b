-- What the laws want of a deed, and of one that leaves freezes and CCBs as they are: where that only answers a number, it is
-- a record of a few lines (`Reads`).
use Rattle.std.proofs.Common.{◌≡◌, ℕ, ◌≤◌, List, [], true, false, Option, Some, refl, ap, sym, subst, ◌∙◌}
use Rattle.freeze_ledger.specs.declared.freeze.Freeze.{Freeze}
use Rattle.freeze_ledger.specs.Freezes.{entry_of}
use Rattle.helpers.specs.declared.limits.HelperLimits.{HelperLimits}
use Rattle.helpers.specs.declared.table.HelperEffect.{HelperEffect}
use Rattle.helpers.specs.declared.table.Row.{Row}
use Rattle.helpers.specs.declared.columns.ArgKind.{ArgKind}
use Rattle.helpers.specs.declared.columns.Needs.{Needs}
use Rattle.helpers.specs.declared.columns.Needs.TheVariants as needs
use Rattle.helpers.specs.declared.columns.Gives.{Gives}
use Rattle.helpers.specs.declared.columns.Gives.TheVariants.{Number}
use Rattle.helpers.specs.declared.columns.Change.{Change}
use Rattle.helpers.specs.declared.columns.Change.TheVariants as changes
use Rattle.helpers.specs.declared.columns.Tells.{Tells}
use Rattle.helpers.specs.declared.columns.Tells.TheVariants as tells
use Rattle.helpers.specs.declared.request.Request.{Request}
use Rattle.helpers.specs.declared.request.Answer.{Answer}
use Rattle.helpers.specs.Table.{row_of, answer_number}
use Rattle.bpf_semantics.specs.MachineState.{MachineState}
use Rattle.bpf_semantics.specs.Calls.{is_held, meets_rule}
use Rattle.bpf_semantics.specs.Step.{IsGiven, IsWritten, changed_by, after_call}
use Rattle.world.specs.World.{Setup, LiveCcb, LiveRun, World}
use Rattle.world.specs.Lookups.{ccb_of}
use Rattle.world.specs.Told.{told_by}
use Rattle.world.specs.Event.{call, executes, Reply, result}
use Rattle.world.specs.RunSteps.{is_run, answers, by_effect}
use Rattle.world.specs.Laws.FreezeLaws.{Calls, MovesByEffect}
use Rattle.world.specs.Laws.CcbLaws.{finished_by}
use Rattle.world.specs.Laws.TookGave.{taken_as, asked_by}
use Rattle.world.specs.Laws.Headline.{disposes}
use Rattle.world.proofs.Steps.Answering.{OpeningsMove, TablesMove, openings_stay, tables_stay}
use Rattle.world_laws.proofs.Alike.{changed, AlikeOr, an_event, changes as both_change}
use Rattle.world_laws.proofs.Steps.Running.{some_is}
use Rattle.world_laws.proofs.Steps.Does.{AnswersFrom, LeavesFreezes, leaves_freezes, LeavesCcbs, leaves_ccbs, LeavesTheRest, Does, takes_by, moves_by, disposes_by}

-- What the other columns of a row with a deed are.

pub record Columns (one two three : Option ArgKind) (need : Needs) (give : Gives) (change : Change) (tell : Tells) (row : Row) : Type 0 where
  pub first_is : row.asks.first ≡ one
  pub second_is : row.asks.second ≡ two
  pub third_is : row.asks.third ≡ three
  pub needs_is : row.needs ≡ need
  pub gives_is : row.gives ≡ give
  pub machine_is : row.machine ≡ change
  pub tells_is : row.tells ≡ tell

-- no code is told
abbrev pub TellsNoCode : Tells → Type 0
TellsNoCode tells.Name = Unit {0}
TellsNoCode tells.Bytes = Unit {0}
TellsNoCode tells.Code = ⊥

-- one that answers a number in this range, and does no more to its run
pub record OnlyAnswers (least most : ℕ) (row : Row) : Type 0 where
  pub gives_is : row.gives ≡ Number least most
  pub machine_is : row.machine ≡ changes.Nothing
  pub no_code : TellsNoCode row.tells

-- What a call may rely on: the freezes that its run holds are there and are the run's, and so is its CCB until it disposes
-- of that.
pub record HasItsOwn (world : World) (run : LiveRun) : Type 0 where
  pub freezes : (number : ℕ) → is_held run.machine.held number ≡ true → (freeze : Freeze) × (entry_of number world.transport.freezes ≡ Some freeze) × (is_run run.number freeze.holder ≡ true)
  pub ccb : run.machine.disposed ≡ false → (live : LiveCcb) × (ccb_of run.ccb world.transport.live ≡ Some live)

-- A step leads somewhere.
abbrev pub LeadsOn : Option (Reply × World) → Type 0
LeadsOn o = (p : Reply × World) × (o ≡ Some p)

-- a deed, with all that the laws want of it
pub record Entry (effect : HelperEffect) : Type 0 where
  -- by the rule of its call it leads on
  pub leads : (limits : HelperLimits) (world : World) (run : LiveRun) (request : Request) → (row_of request.helper).effect ≡ effect → HasItsOwn world run → meets_rule limits run.machine request ≡ true → LeadsOn (by_effect effect world run request)
  -- it does not mind a change of another run
  pub alike : (r : ℕ) (c : LiveRun) (named : c.number ≡ r) (w : World) (run : LiveRun) → (run.number ≡ r → ⊥) → (request : Request) → AlikeOr r c named w (by_effect effect w run request) (by_effect effect (changed c w) run request)
  -- what it does
  pub does : (setup : Setup) (before : World) (run : LiveRun) (request : Request) → (row_of request.helper).effect ≡ effect → meets_rule setup.limits run.machine request ≡ true → (p : Reply × World) → by_effect effect before run request ≡ Some p → Does setup before run request p

-- openings and tables stay
pub nothing_set : (before between : World) → between.transport.openings ≡ before.transport.openings → between.runs.tables ≡ before.runs.tables → between.runs.list ≡ before.runs.list → between.runs.greatest ≡ before.runs.greatest → between.transport.clock ≡ before.transport.clock → LeavesTheRest before between
nothing_set before between openings tables runs greatest clock = record { openings = openings_stay openings; tables = tables_stay tables; runs_is = runs; greatest_is = greatest; clock_is = clock }

-- Freezes that stay: by the columns the call gives up none and takes none, and what it answers and writes is allowed.
pub record StayingBy (setup : Setup) (before : World) (run : LiveRun) (request : Request) (given : Answer) (effect : HelperEffect) (give : Gives) (change : Change) : Type 0 where
  pub deed_is : (row_of request.helper).effect ≡ effect
  pub gives_is : (row_of request.helper).gives ≡ give
  pub machine_is : (row_of request.helper).machine ≡ change
  pub keeps : asked_by change request ≡ []
  pub held : (changed_by change request.arguments given (after_call run.machine given.r0)).held ≡ run.machine.held
  pub answer : AnswersFrom setup before run → IsGiven run.machine.held give given.r0
  pub written : IsWritten change request.arguments given.written
  pub taken : (other number : ℕ) → taken_as give other number given.r0 ≡ []
  pub moves : (number : ℕ) (after : World) → Calls before number request → after.transport.freezes ≡ before.transport.freezes → MovesByEffect effect before number (result given.r0) after

pub staying : (setup : Setup) (before : World) (run : LiveRun) (request : Request) (given : Answer) (between : World) (effect : HelperEffect) (give : Gives) (change : Change) → StayingBy setup before run request given effect give change → between.transport.freezes ≡ before.transport.freezes → between.transport.greatest_freeze ≡ before.transport.greatest_freeze → LeavesFreezes setup before run request given between
staying setup before run request given between effect give change it freezes greatest = record {
  keeps = ap (λ (c : Change). asked_by c request) it.machine_is ∙ it.keeps;
  allowed = λ from. (
    subst (λ (g : Gives). IsGiven run.machine.held g given.r0) (sym it.gives_is) (it.answer from),
    subst (λ (c : Change). IsWritten c request.arguments given.written) (sym it.machine_is) it.written,
  );
  held = ap (λ (c : Change). (changed_by c request.arguments given (after_call run.machine given.r0)).held) it.machine_is ∙ it.held;
  taken = λ other number. takes_by give request it.gives_is other number given.r0 ∙ it.taken other number;
  moves = λ number after calls same. moves_by effect request it.deed_is before number (result given.r0) after (it.moves number after calls same);
  freezes_is = freezes;
  greatest_is = greatest;
}

-- CCBs that stay: by the columns the call disposes of none, and tells no code.
tells_none : (tell : Tells) → TellsNoCode tell → (request : Request) (before : World) (number : ℕ) (reply : Reply) → finished_by before (executes number (call (told_by tell request))) reply ≡ []
tells_none tells.Name said request before number reply = refl
tells_none tells.Bytes said request before number reply = refl
tells_none tells.Code said request before number reply = absurd said

pub calm : (before : World) (run : LiveRun) (request : Request) (given : Answer) (between : World) (change : Change) → (row_of request.helper).machine ≡ change → TellsNoCode (row_of request.helper).tells → disposes change ≡ false → (changed_by change request.arguments given (after_call run.machine given.r0)).disposed ≡ run.machine.disposed → between.transport.live ≡ before.transport.live → between.ended ≡ before.ended → between.transport.greatest_ccb ≡ before.transport.greatest_ccb → LeavesCcbs before run request given between
calm before run request given between change is no_code calm_change disposed live ended greatest = record {
  calm = disposes_by change request is ∙ calm_change;
  ends_none = tells_none (row_of request.helper).tells no_code request before;
  disposed = ap (λ (c : Change). (changed_by c request.arguments given (after_call run.machine given.r0)).disposed) is ∙ disposed;
  live_is = live;
  ended_is = ended;
  greatest_is = greatest;
}

-- a helper of which the name alone is told tells none
pub named_alone : (request : Request) → (row_of request.helper).tells ≡ tells.Name → TellsNoCode (row_of request.helper).tells
named_alone request is = subst TellsNoCode (sym is) tt

-- a call that leaves freezes and CCBs, and is always answered
pub calmly : (setup : Setup) (before : World) (run : LiveRun) (request : Request) (given : Answer) (between : World) → LeavesFreezes setup before run request given between → LeavesCcbs before run request given between → LeavesTheRest before between → (p : Reply × World) → Some (answers between run request given) ≡ Some p → Does setup before run request p
calmly setup before run request given between freezes ccbs rest p e = record {
  given = given;
  between = between;
  answer = some_is _ _ e;
  freezes = leaves_freezes freezes;
  ccbs = leaves_ccbs ccbs;
  rest = rest;
}

-- A call that only answers, writes to its run's memory, or sets openings and words.

abbrev IsCalm : Change → Type 0
IsCalm changes.Nothing = Unit {0}
IsCalm changes.Holds = ⊥
IsCalm changes.GivesUp = ⊥
IsCalm changes.Disposes = ⊥
IsCalm (changes.Writes bytes) = Unit {0}

-- such a change leaves what is held, and whether the CCB is disposed of
record LeavesHeld (change : Change) (request : Request) (given : Answer) (m : MachineState) : Type 0 where
  keeps : asked_by change request ≡ []
  held : (changed_by change request.arguments given (after_call m given.r0)).held ≡ m.held
  calm : disposes change ≡ false
  disposed : (changed_by change request.arguments given (after_call m given.r0)).disposed ≡ m.disposed

leaves_held : (change : Change) → IsCalm change → (request : Request) (given : Answer) (m : MachineState) → LeavesHeld change request given m
leaves_held changes.Nothing calm request given m = record { keeps = refl; held = refl; calm = refl; disposed = refl }
leaves_held changes.Holds calm request given m = absurd calm
leaves_held changes.GivesUp calm request given m = absurd calm
leaves_held changes.Disposes calm request given m = absurd calm
leaves_held (changes.Writes bytes) calm request given m = record { keeps = refl; held = refl; calm = refl; disposed = refl }

-- by the columns of its row it answers a number in its range and tells no code
record Plain (setup : Setup) (before : World) (run : LiveRun) (request : Request) (given : Answer) (openings : List ℕ) (tables : List (List ℕ)) (effect : HelperEffect) (least greatest : ℕ) (change : Change) : Type 0 where
  deed_is : (row_of request.helper).effect ≡ effect
  gives_is : (row_of request.helper).gives ≡ Number least greatest
  machine_is : (row_of request.helper).machine ≡ change
  no_code : TellsNoCode (row_of request.helper).tells
  calm : IsCalm change
  moves : (number : ℕ) (after : World) → after.transport.freezes ≡ before.transport.freezes → MovesByEffect effect before number (result given.r0) after
  answer : AnswersFrom setup before run → (least ≤ given.r0) × (given.r0 ≤ greatest)
  written : IsWritten change request.arguments given.written
  opens : OpeningsMove before.transport.openings openings
  sets : TablesMove before.runs.tables tables

plainly : (setup : Setup) (before : World) (run : LiveRun) (request : Request) (given : Answer) (openings : List ℕ) (tables : List (List ℕ)) (effect : HelperEffect) (least greatest : ℕ) (change : Change) → Plain setup before run request given openings tables effect least greatest change → (p : Reply × World) → Some (answers (record before { transport = record before.transport { openings = openings }; runs = record before.runs { tables = tables } }) run request given) ≡ Some p → Does setup before run request p
plainly setup before run request given openings tables effect least greatest change it =
    let between : World = record before { transport = record before.transport { openings = openings }; runs = record before.runs { tables = tables } } in
    let leaves = leaves_held change it.calm request given run.machine in
    calmly setup before run request given between
    (staying setup before run request given between effect (Number least greatest) change (record {
      deed_is = it.deed_is;
      gives_is = it.gives_is;
      machine_is = it.machine_is;
      keeps = leaves.keeps;
      held = leaves.held;
      answer = it.answer;
      written = it.written;
      taken = λ other number. refl;
      moves = λ number after calls same. it.moves number after same;
    }) refl refl)
    (calm before run request given between change it.machine_is it.no_code leaves.calm leaves.disposed refl refl refl)
    (record { openings = it.opens; tables = it.sets; runs_is = refl; greatest_is = refl; clock_is = refl })

-- where a row is such by its columns
pub plain_row : (setup : Setup) (before : World) (run : LiveRun) (request : Request) (given : Answer) (openings : List ℕ) (tables : List (List ℕ)) (effect : HelperEffect) (one two three : Option ArgKind) (least greatest : ℕ) (change : Change) → (row_of request.helper).effect ≡ effect → Columns one two three needs.Nothing (Number least greatest) change tells.Name (row_of request.helper) → IsCalm change → ((number : ℕ) (after : World) → after.transport.freezes ≡ before.transport.freezes → MovesByEffect effect before number (result given.r0) after) → (AnswersFrom setup before run → (least ≤ given.r0) × (given.r0 ≤ greatest)) → IsWritten change request.arguments given.written → OpeningsMove before.transport.openings openings → TablesMove before.runs.tables tables → (p : Reply × World) → Some (answers (record before { transport = record before.transport { openings = openings }; runs = record before.runs { tables = tables } }) run request given) ≡ Some p → Does setup before run request p
plain_row setup before run request given openings tables effect one two three least greatest change is columns calm moves answer written opens sets =
    plainly setup before run request given openings tables effect least greatest change (record {
      deed_is = is;
      gives_is = columns.gives_is;
      machine_is = columns.machine_is;
      no_code = named_alone request columns.tells_is;
      calm = calm;
      moves = moves;
      answer = answer;
      written = written;
      opens = opens;
      sets = sets;
    })

-- A deed that only answers a number of the world and of its run, in this range.
pub record Reads (effect : HelperEffect) (answer : World → LiveRun → Request → ℕ) (least most : ℕ) : Type 0 where
  pub columns : (request : Request) → (row_of request.helper).effect ≡ effect → OnlyAnswers least most (row_of request.helper)
  pub step : (world : World) (run : LiveRun) (request : Request) → by_effect effect world run request ≡ Some (answers world run request (answer_number (answer world run request)))
  -- which no change of another run changes
  pub apart : (c : LiveRun) (world : World) (run : LiveRun) (request : Request) → answer (changed c world) run request ≡ answer world run request
  pub within : (setup : Setup) (world : World) (run : LiveRun) (request : Request) → AnswersFrom setup world run → (least ≤ answer world run request) × (answer world run request ≤ most)
  pub moves : (before : World) (number : ℕ) (reply : Reply) (after : World) → after.transport.freezes ≡ before.transport.freezes → MovesByEffect effect before number reply after

pub reads : (effect : HelperEffect) (answer : World → LiveRun → Request → ℕ) (least most : ℕ) → Reads effect answer least most → Entry effect
reads effect answer least most it = record {
  leads = λ limits world run request is own rule. (_, it.step world run request);
  alike = λ r c named w run apart request.
      let given : Answer = answer_number (answer w run request) in
      let here : by_effect effect w run request ≡ Some (answers w run request given) = it.step w run request in
      let there : by_effect effect (changed c w) run request ≡ Some (answers (changed c w) run request given) =
      it.step (changed c w) run request ∙ ap (λ (n : ℕ). Some (answers (changed c w) run request (answer_number n))) (it.apart c w run request) in
      subst (λ (o : Option (Reply × World)). AlikeOr r c named w o (by_effect effect (changed c w) run request)) (sym here)
      (subst (λ (o : Option (Reply × World)). AlikeOr r c named w (Some (answers w run request given)) o) (sym there)
      (an_event r c named w _ _ (both_change r c named w _ w _ refl apart)));
  does = λ setup before run request is rule p e.
      let columns = it.columns request is in
      plainly setup before run request (answer_number (answer before run request)) before.transport.openings before.runs.tables effect least most changes.Nothing (record {
        deed_is = is;
        gives_is = columns.gives_is;
        machine_is = columns.machine_is;
        no_code = columns.no_code;
        calm = tt;
        moves = λ number after same. it.moves before number _ after same;
        answer = it.within setup before run request;
        written = tt;
        opens = openings_stay refl;
        sets = tables_stay refl;
      }) p (sym (it.step before run request) ∙ e);
}
