-- One line more, the guests' freezes with it, and what stops.
use Rattle.std.proofs.Common.{◌≡◌, ℕ, ◌+◌, ◌<◌, List, [], ◌∷◌, ◌++◌, length, take, Option, Some, None, refl, ap, sym, subst, ◌∙◌, arith, append-nil}
use Rattle.std.proofs.lemmas.List.{take_all}
use Rattle.std.proofs.lemmas.List.Elements.{filter-append}
use Rattle.freeze_ledger.specs.declared.freeze.Freeze.{Freeze}
use Rattle.world_calls.specs.declared.carried_line.CarriedLine.{CarriedLine}
use Rattle.world_calls.specs.declared.carried_line.CarriedLine.TheVariants as lines
use Rattle.world.proofs.Lists.Found.{filter_no, filter_yes}
use Rattle.world.specs.Beginning.{IsBeginning}
use Rattle.world.specs.FreezeSteps.{is_guest}
use Rattle.world.specs.Lawful.{IsLawful}
use Rattle.world.specs.World.{Setup, Transport, World}
use Rattle.engine_runs.specs.RunsState.{RunsState}
use Rattle.engine_beginning.specs.Begun.{BegunState, IsComplete, IsTokenOf, MayFollow, begun, finished, with_line}
use Rattle.engine_beginning.specs.Lines.{IsFront, IsRanged, Takes, lines_of}
use Rattle.engine_beginning.proofs.Completing.{lines_go_on}
use Rattle.engine_beginning.proofs.Saying.{says_its_lines}
use Rattle.engine_beginning.proofs.Whole.{lines_are_exact}
use Rattle.engine_core.specs.ByNumber.{NumberedState, guests_of, opened_numbered}
use Rattle.engine_core.specs.EngineState.{EngineState}
use Rattle.engine_core.specs.Settings.{begun_with, setup_over}
use Rattle.engine_succession.specs.declared.beginning.BeginFault.{BeginFault}
use Rattle.engine_succession.specs.declared.beginning.BeginFault.TheVariants.{DoesNotFit, OutOfMemory}
use Rattle.engine_succession.specs.FromLines.{BeginsNumbered, BeginsWith, IsFirstFault, IsRefused, IsWorldOf, NoneGoesOn}
use Rattle.engine_succession.specs.Taking.{AreTaken, IsEntered, StopsAt, StopsFor, listed}

-- ---- one line more

takes_push : (from between : BegunState) (xs : List CarriedLine) (line : CarriedLine) → Takes from xs between → IsRanged line → MayFollow between line → Takes from (xs ++ line ∷ []) (with_line line between)
takes_push from between [] line takes ranged may =
    subst (λ (b : BegunState). Takes from (line ∷ []) (with_line line b)) takes (ranged, subst (λ (b : BegunState). MayFollow b line) (sym takes) may, refl)
takes_push from between (x ∷ xs) line takes ranged may = (takes.0, takes.1, takes_push (with_line x from) between xs line takes.2 ranged may)

-- no other line brings a freeze
guests_push : (freezes : List Freeze) (freeze : Freeze) (token : Option Freeze) → IsTokenOf (lines.Freeze freeze) token → guests_of (freezes ++ freeze ∷ []) ≡ guests_of freezes ++ listed token
guests_push freezes freeze None is =
    filter-append (λ (f : Freeze). is_guest f.holder) freezes (freeze ∷ []) ∙ ap (λ (l : List Freeze). guests_of freezes ++ l) (filter_no (λ (f : Freeze). f.number) (λ (f : Freeze). is_guest f.holder) freeze [] is)
guests_push freezes freeze (Some token) is =
    filter-append (λ (f : Freeze). is_guest f.holder) freezes (freeze ∷ [])
    ∙ ap (λ (l : List Freeze). guests_of freezes ++ l) (filter_yes (λ (f : Freeze). f.number) (λ (f : Freeze). is_guest f.holder) freeze [] is.0 ∙ ap (λ (f : Freeze). f ∷ []) (sym is.1))

guests_line : (b : BegunState) (line : CarriedLine) (token : Option Freeze) → IsTokenOf line token → guests_of (with_line line b).transport.freezes ≡ guests_of b.transport.freezes ++ listed token
guests_line b (lines.Freeze freeze) token is = guests_push b.transport.freezes freeze token is
guests_line b (lines.Numbers ccb freeze run) None is = sym (append-nil (guests_of b.transport.freezes))
guests_line b (lines.Numbers ccb freeze run) (Some token) is = absurd is
guests_line b (lines.Clock reading) None is = sym (append-nil (guests_of b.transport.freezes))
guests_line b (lines.Clock reading) (Some token) is = absurd is
guests_line b (lines.Openings queue openings) None is = sym (append-nil (guests_of b.transport.freezes))
guests_line b (lines.Openings queue openings) (Some token) is = absurd is
guests_line b (lines.Word table index word) None is = sym (append-nil (guests_of b.transport.freezes))
guests_line b (lines.Word table index word) (Some token) is = absurd is
guests_line b (lines.Ccb ccb) None is = sym (append-nil (guests_of b.transport.freezes))
guests_line b (lines.Ccb ccb) (Some token) is = absurd is

pub taken_push : (from between to : BegunState) (xs : List CarriedLine) (line : CarriedLine) (token : Option Freeze) (held now later : List Freeze)
    → AreTaken from xs held between now → IsRanged line → MayFollow between line → to ≡ with_line line between → IsTokenOf line token → later ≡ now ++ listed token
    → AreTaken from (xs ++ line ∷ []) held to later
taken_push from between to xs line token held now later taken ranged may is token_is more = record {
  takes = subst (Takes from (xs ++ line ∷ [])) (sym is) (takes_push from between xs line taken.takes ranged may);
  guests_are = λ first. more ∙ (ap (λ (l : List Freeze). l ++ listed token) (taken.guests_are first) ∙ (sym (guests_line between line token token_is) ∙ ap (λ (b : BegunState). guests_of b.transport.freezes) (sym is)));
}

pub none_taken : (from : BegunState) (held : List Freeze) → AreTaken from [] held from held
none_taken from held = record { takes = refl; guests_are = λ is. is }

-- ---- what stops

-- a line that cannot be next is one that no world has there
stops : (setup : Setup) (xs : List CarriedLine) (place : ℕ) → IsLawful setup → StopsAt (begun setup) xs place → NoneGoesOn setup xs place
stops setup xs place lawful at = λ world is. (
  λ below rest same. at.cannot (lines_are_exact.0 setup lawful (take place xs) at.to at.before at.line (record { world = world; is = is; rest = rest; begins = same ∙ ap (λ (l : List CarriedLine). l ++ rest) at.with })),
  λ end same. absurd (omega (arith, end, at.below)),
)

-- all lines were taken, and there are too few
pub too_few : (setup : Setup) (xs : List CarriedLine) (to : BegunState) → IsLawful setup → Takes (begun setup) xs to → (IsComplete to → ⊥) → IsFirstFault setup xs (length xs)
too_few setup xs to lawful takes short = record {
  within = omega arith;
  before = subst (IsFront setup) (sym (take_all (length xs) xs (omega arith))) (lines_go_on setup lawful xs to takes);
  none = λ world is. (
    λ below rest same. absurd (omega (arith, below)),
    λ end same. short (lines_are_exact.1 setup lawful xs to takes world is same).0,
  );
}

-- ---- what an engine begins with

entered_world : (setup : Setup) (xs : List CarriedLine) (transport : Transport) (runs : RunsState) (guests : List Freeze) (it : IsEntered setup xs transport runs guests) → finished it.to ≡ record { transport = transport; runs = runs.runs; ended = [] }
entered_world setup xs transport runs guests it =
    ap (λ (t : Transport). record { transport = t; runs = (finished it.to).runs; ended = [] }) (sym it.transport_is)
    ∙ ap (λ (r : RunsState). record { transport = transport; runs = r.runs; ended = [] }) (sym it.runs_are)

pub entered_begins : (setup : Setup) (xs : List CarriedLine) (transport : Transport) (runs : RunsState) (guests : List Freeze) → IsLawful setup → IsEntered setup xs transport runs guests → IsBeginning setup (record { transport = transport; runs = runs.runs; ended = [] })
entered_begins setup xs transport runs guests lawful it =
    subst (IsBeginning setup) (entered_world setup xs transport runs guests it) (says_its_lines setup lawful xs it.to it.takes it.complete).0

world_of_lines : (setup : Setup) (xs : List CarriedLine) (transport : Transport) (runs : RunsState) (guests : List Freeze) → IsLawful setup → IsEntered setup xs transport runs guests → IsWorldOf setup xs (record { transport = transport; runs = runs.runs; ended = [] })
world_of_lines setup xs transport runs guests lawful it =
    let same = entered_world setup xs transport runs guests it in
    record {
      is = entered_begins setup xs transport runs guests lawful it;
      lines_are = subst (λ (w : World). lines_of w ≡ xs) same (says_its_lines setup lawful xs it.to it.takes it.complete).1;
      only = λ other begins its. sym (lines_are_exact.1 setup lawful xs it.to it.takes other begins its).1 ∙ same;
    }

pub begins_with : (setup : Setup) (xs : List CarriedLine) (transport : Transport) (runs : RunsState) (guests : List Freeze) (engine : EngineState) → IsLawful setup → IsEntered setup xs transport runs guests
    → engine ≡ begun_with setup (record { transport = transport; runs = runs.runs; ended = [] }) → BeginsWith setup xs engine guests
begins_with setup xs transport runs guests engine lawful it is =
    record { world = record { transport = transport; runs = runs.runs; ended = [] }; has = world_of_lines setup xs transport runs guests lawful it; engine_is = is; guests_are = it.guests_are }

pub begins_numbered : (setup : Setup) (xs : List CarriedLine) (transport : Transport) (runs : RunsState) (guests : List Freeze) (engine : NumberedState) → IsLawful setup → IsEntered setup xs transport runs guests
    → engine ≡ opened_numbered (setup_over setup (Some (record { transport = transport; runs = runs.runs; ended = [] }))) → BeginsNumbered setup xs engine
begins_numbered setup xs transport runs guests engine lawful it is =
    record { world = record { transport = transport; runs = runs.runs; ended = [] }; has = world_of_lines setup xs transport runs guests lawful it; engine_is = is }

pub stops_for : (setup : Setup) (xs : List CarriedLine) (fault : BeginFault) → IsLawful setup → StopsFor (begun setup) xs fault → IsRefused setup xs fault
stops_for setup xs (DoesNotFit place) lawful at = record {
  within = omega (arith, at.below);
  before = lines_go_on setup lawful (take place xs) at.to at.before;
  none = stops setup xs place lawful at;
}
stops_for setup xs OutOfMemory lawful at = tt

pub stops_here : (from to : BegunState) (xs : List CarriedLine) (place index : ℕ) (line : CarriedLine) (held now : List Freeze) → place ≡ index → index < length xs → AreTaken from (take index xs) held to now
    → take (index + 1) xs ≡ take index xs ++ line ∷ [] → (MayFollow to line → ⊥) → StopsAt from xs place
stops_here from to xs place index line held now same below taken with cannot = record {
  below = subst (λ (n : ℕ). n < length xs) (sym same) below;
  to = to;
  before = subst (λ (n : ℕ). Takes from (take n xs) to) (sym same) taken.takes;
  line = line;
  with = subst (λ (n : ℕ). take (n + 1) xs ≡ take n xs ++ line ∷ []) (sym same) with;
  cannot = cannot;
}

-- an engine that begins has what was taken
pub entered_is : (setup : Setup) (xs : List CarriedLine) (to : BegunState) (transport : Transport) (runs : RunsState) (guests : List Freeze) → AreTaken (begun setup) xs [] to guests → IsComplete to
    → transport ≡ (finished to).transport → runs ≡ record { runs = (finished to).runs; tokens = [] } → IsEntered setup xs transport runs guests
entered_is setup xs to transport runs guests taken complete first second = record {
  to = to;
  takes = taken.takes;
  complete = complete;
  transport_is = first;
  runs_are = second;
  guests_are = taken.guests_are refl ∙ ap (λ (t : Transport). guests_of t.freezes) (sym first);
}
