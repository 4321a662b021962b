-- How turns come together to what was served.
use Rattle.std.proofs.Common.{◌≡◌, ◌∙◌, ◌+◌, ℕ, Bool, true, false, Option, Some, None, Result, Ok, Err, List, [], ◌∷◌, ◌++◌, refl, sym, ap, subst, append-nil, inl, inr}
use Rattle.std.specs.Prelude.{◌⊎◌, IfOk, MatchBool, ⊤}
use Rattle.world_calls.specs.declared.record.Record.{Record}
use Rattle.world.specs.World.{Setup, version_of}
use Rattle.engine_core.specs.ByNumber.{NumberedState, IsBehind}
use Rattle.host_live.specs.Answering.{Answer, AreBehind, with_answers}
use Rattle.host_live.specs.Growth.{GrowsAs, GrowsBy, PrintedState}
use Rattle.host_live.specs.Inputs.{CameState}
use Rattle.host_live.specs.LinesCome.{Stands}
use Rattle.host_live.specs.Served.{AreDrivenFirst, AreDrivenLast, DrivesFirst, DrivesLast, EndsOr, Finishes, FinishesInPart, FinishesOr, GoesOnOr, GrowsWith, IsGoneOn, IsGoneOnInPart, IsNow, IsPrintedBehind, NextIs, at_last, in_drives, in_first, in_the_rest, in_turns, to_the_end, to_the_next}
use Rattle.host_live.specs.declared.reports.Unfollowed.{Unfollowed}
use Rattle.host_live.specs.declared.request.Succession.{Succession}
use Rattle.host_live.specs.Turns.{AreDriven, AreOfRuns, DrivesAll, Ends, EndsAsked, Follows, IsAt, IsSomewhere, Point, Stops, StopsAt, Turns, at_end, at_quit, at_reading, no_turn, one_more}
use Rattle.host_live.specs.declared.answering.After.{After}
use Rattle.host_live.specs.declared.answering.After.TheVariants as after
use Rattle.host_live.specs.declared.lines.Lines.{Lines}
use Rattle.host_live.specs.declared.manner.Manner.{Manner}
use Rattle.host_live.specs.declared.serving.LiveFault.{LiveFault}
use Rattle.host_live.proofs.Growing.{both_by, by_none, by_then, placed_after, placed_now}
use Rattle.host_live.proofs.Outcomes.{behind_so, both_given, err_of, none_given, ok_of, told_all}
use Rattle.host_live.proofs.Turning.{no_runs}

abbrev the_none : List Record
the_none = []

-- ---- turn by turn

abbrev pub SoFar : Manner → (Succession → NumberedState → Unfollowed → Type 0) → NumberedState → (List Record → ℕ → Type 0) → Point → Option CameState → Lines → List Record → List Answer → Type 0
SoFar manner Refuses start Placed point came lines records answers = (told : List ℕ) × Turns manner Refuses start Placed point told lines.number records answers × Stands point.base came lines told

pub nothing_yet : (manner : Manner) (Refuses : Succession → NumberedState → Unfollowed → Type 0) (point : Point) (came : Option CameState) (lines : Lines) (old : PrintedState) (at : Option (List ℕ)) (failed : ℕ) (given : Option (List Answer)) → IsAt point came lines → GrowsWith (SoFar manner Refuses old.engine (IsPrintedBehind old.printed at) point came lines) old at failed given old at failed given
nothing_yet manner Refuses point came lines old at failed given is = record {
  more = [];
  others = [];
  these = (point.told, subst (λ (n : ℕ). Turns manner Refuses old.engine (IsPrintedBehind old.printed at) point point.told n [] []) (sym is.number) no_turn, is.stands);
  by = by_none old at failed;
  are_answers = none_given given;
}

module _ (manner : Manner) (Refuses : Succession → NumberedState → Unfollowed → Type 0) (point : Point) (before : Option CameState) (lines : Lines) (old mid : PrintedState) (at between : Option (List ℕ)) (failed some : ℕ) (given middle : Option (List Answer)) (so_far : GrowsWith (SoFar manner Refuses old.engine (IsPrintedBehind old.printed at) point before lines) old at failed given mid between some middle) where
  abbrev Placed : List Record → ℕ → Type 0
  Placed = IsPrintedBehind old.printed at

  pub stops_so_far : GrowsWith (Stops manner Refuses old.engine Placed point before) old at failed given mid between some middle
  stops_so_far = record {
    more = so_far.more;
    others = so_far.others;
    these = record {
      told = so_far.these.0;
      number = lines.number;
      turned = so_far.more;
      turns = so_far.these.1;
      more = [];
      at = at_reading None (λ still. refl) refl (told_all point.base so_far.these.0 before lines so_far.these.2);
      all = sym (append-nil so_far.more);
    };
    by = so_far.by;
    are_answers = so_far.are_answers;
  }

  module _ (came : Option CameState) (later : Lines) (Decided : Succession → NumberedState → Type 0) (new : PrintedState) (to : Option (List ℕ)) (fails : ℕ) (answered : Option (List Answer)) where
    abbrev Next : After → List Record → List Answer → Type 0
    Next comes = NextIs manner Refuses point.base so_far.these.0 lines.number came later Decided (ok_of LiveFault comes) new.engine new.printed to

    abbrev Failing : LiveFault → List Record → List Answer → Type 0
    Failing fault = NextIs manner Refuses point.base so_far.these.0 lines.number came later Decided (err_of After fault) new.engine new.printed to

    joined : {P Q : List Record → List Answer → Type 0} → (step : GrowsWith P mid between some middle new to fails answered) → (GrowsBy (so_far.more ++ step.more) old at failed new to fails → Q (so_far.more ++ step.more) (so_far.others ++ step.others)) → GrowsWith Q old at failed given new to fails answered
    joined step on =
        let by = both_by old mid new at between to failed some fails so_far.more step.more so_far.by step.by in
        record {
          more = so_far.more ++ step.more;
          others = so_far.others ++ step.others;
          these = on by;
          by = by;
          are_answers = step.are_answers ∙ (ap (λ (a : Option (List Answer)). with_answers a step.others) so_far.are_answers ∙ both_given given so_far.others step.others);
        }

    pub turns_on : GrowsWith (Next after.More) mid between some middle new to fails answered → GrowsWith (SoFar manner Refuses old.engine Placed point came later) old at failed given new to fails answered
    turns_on step = joined step (λ by. (
      so_far.these.0 ++ step.these.0,
      one_more so_far.these.0 lines.number so_far.more so_far.others step.these.0 later.number step.more step.others new.engine so_far.these.1 step.these.1 (by.setup, by.follows)
          (behind_so (IsNow new.printed to) (Placed (so_far.more ++ step.more)) (placed_now (so_far.more ++ step.more) old new at to failed fails by) step.others step.these.2),
      step.these.3,
    ))

    ends_these : (more : List Record) (others : List Answer) → GrowsBy (so_far.more ++ more) old at failed new to fails → Next after.End more others → Ends manner Refuses old.engine Placed point came (so_far.more ++ more) (so_far.others ++ others)
    ends_these more others by this = elim this [
      | inl over ↦
          subst (λ (rs : List Record). Ends manner Refuses old.engine Placed point came rs (so_far.others ++ others)) (sym (ap (λ (t : List Record). so_far.more ++ t) over.0 ∙ append-nil so_far.more))
          (subst (Ends manner Refuses old.engine Placed point came so_far.more) (sym (ap (λ (t : List Answer). so_far.others ++ t) over.1 ∙ append-nil so_far.others)) (at_end so_far.these.0 lines.number so_far.more so_far.others so_far.these.1 over.2))
      | inr quits ↦
          at_quit so_far.these.0 lines.number so_far.more more so_far.others others new.engine so_far.these.1 quits.0 (by.setup, by.follows)
          (behind_so (IsNow new.printed to) (Placed (so_far.more ++ more)) (placed_now (so_far.more ++ more) old new at to failed fails by) others quits.1)
    ]

    pub turns_end : GrowsWith (Next after.End) mid between some middle new to fails answered → GrowsWith (Ends manner Refuses old.engine Placed point came) old at failed given new to fails answered
    turns_end step = joined step (λ by. ends_these step.more step.others by step.these)

    no_others : (Q : List Answer → Type 0) (others : List Answer) → others ≡ [] → Q so_far.others → Q (so_far.others ++ others)
    no_others Q others none it = subst Q (sym (ap (λ (t : List Answer). so_far.others ++ t) none ∙ append-nil so_far.others)) it

    pub turns_asked : GrowsWith (Next after.Asked) mid between some middle new to fails answered → GrowsWith (EndsAsked manner Refuses old.engine Placed point came later Decided) old at failed given new to fails answered
    turns_asked step = joined step (λ by. no_others (EndsAsked manner Refuses old.engine Placed point came later Decided (so_far.more ++ step.more)) step.others step.these.0 (record {
      told = so_far.these.0;
      number = lines.number;
      turned = so_far.more;
      turns = so_far.these.1;
      more = step.more;
      now = new.engine;
      asks = step.these.1;
      all = refl;
      follows = (by.setup, by.follows);
    }))

    pub turns_stop : (fault : LiveFault) → GrowsWith (Failing fault) mid between some middle new to fails answered → GrowsWith (Stops manner Refuses old.engine Placed point came) old at failed given new to fails answered
    turns_stop fault step = joined step (λ by. no_others (Stops manner Refuses old.engine Placed point came (so_far.more ++ step.more)) step.others step.these.0 (record {
      told = so_far.these.0;
      number = lines.number;
      turned = so_far.more;
      turns = so_far.these.1;
      more = step.more;
      at = subst (λ (setup : Setup). StopsAt manner (version_of setup) point.base came so_far.these.0 step.more) by.setup step.these.1;
      all = refl;
    }))

-- ---- where the next lines begin

point_after : (manner : Manner) (Refuses : Succession → NumberedState → Unfollowed → Type 0) (start : NumberedState) (Placed : List Record → ℕ → Type 0) (point : Point) (came : Option CameState) (lines : Lines) (Decided : Succession → NumberedState → Type 0) (records : List Record) (answers : List Answer) → Finishes manner Refuses start Placed point came lines Decided true records answers → IsSomewhere came lines
point_after manner Refuses start Placed point came lines Decided records answers (to_the_next turned given asked) =
    (record { base = point.base; told = asked.told ++ (asked.asks.line ++ 10 ∷ []); number = asked.number + 1 }, record { stands = asked.asks.stands; number = asked.asks.number_is })

pub next_point : (manner : Manner) (Refuses : Succession → NumberedState → Unfollowed → Type 0) (start : NumberedState) (Placed : List Record → ℕ → Type 0) (point : Point) (came : Option CameState) (lines : Lines) (Decided : Succession → NumberedState → Type 0) (records : List Record) (answers : List Answer) → IsGoneOn manner Refuses start Placed point came lines Decided true records answers → IsSomewhere came lines
next_point manner Refuses start Placed point came lines Decided records answers it = point_after manner Refuses it.now (λ (more : List Record). Placed (it.driven ++ more)) point came lines Decided it.turned answers it.finishes

-- whatever was decided
any_asked : (manner : Manner) (Refuses : Succession → NumberedState → Unfollowed → Type 0) (point : Point) (came : Option CameState) (Placed : List Record → ℕ → Type 0) (start : NumberedState) (lines : Lines) (Decided : Succession → NumberedState → Type 0) (records : List Record) (answers : List Answer) → EndsAsked manner Refuses start Placed point came lines Decided records answers → EndsAsked manner Refuses start Placed point came lines (λ how now. ⊤) records answers
any_asked manner Refuses point came Placed start lines Decided records answers it = record {
  told = it.told;
  number = it.number;
  turned = it.turned;
  turns = it.turns;
  more = it.more;
  now = it.now;
  asks = record { line = it.asks.line; begins = it.asks.begins; one_line = it.asks.one_line; how = it.asks.how; turn = it.asks.turn; is_decided = tt; number_is = it.asks.number_is; stands = it.asks.stands };
  all = it.all;
  follows = it.follows;
}

any_finishes : (manner : Manner) (Refuses : Succession → NumberedState → Unfollowed → Type 0) (point : Point) (came : Option CameState) (Placed : List Record → ℕ → Type 0) (start : NumberedState) (lines : Lines) (Decided : Succession → NumberedState → Type 0) (is_followed : Bool) (records : List Record) (answers : List Answer) → Finishes manner Refuses start Placed point came lines Decided is_followed records answers → Finishes manner Refuses start Placed point came lines (λ how now. ⊤) is_followed records answers
any_finishes manner Refuses point came Placed start lines Decided is_followed records answers (to_the_end turned last given now ends driven follows) = to_the_end turned last given now ends driven follows
any_finishes manner Refuses point came Placed start lines Decided is_followed records answers (to_the_next turned given asked) = to_the_next turned given (any_asked manner Refuses point came Placed start lines Decided turned given asked)

-- ---- turns of which answers stand elsewhere

module _ (manner : Manner) (Refuses : Succession → NumberedState → Unfollowed → Type 0) (point : Point) (came : Option CameState) (P Q : List Record → ℕ → Type 0) (on : (records : List Record) (behind : ℕ) → P records behind → Q records behind) (start : NumberedState) where
  turns_placed : (told : List ℕ) (number : ℕ) (records : List Record) (answers : List Answer) → Turns manner Refuses start P point told number records answers → Turns manner Refuses start Q point told number records answers
  turns_placed told number records answers no_turn = no_turn
  turns_placed told number records answers (one_more before count some given bytes last more others now turns one follows placed) =
      one_more before count some given bytes last more others now (turns_placed before count some given turns) one follows (behind_so (P (some ++ more)) (Q (some ++ more)) (on (some ++ more)) others placed)

  ends_placed : (records : List Record) (answers : List Answer) → Ends manner Refuses start P point came records answers → Ends manner Refuses start Q point came records answers
  ends_placed records answers (at_end told number some given turns all) = at_end told number some given (turns_placed told number some given turns) all
  ends_placed records answers (at_quit told number some more given others now turns quits follows placed) =
      at_quit told number some more given others now (turns_placed told number some given turns) quits follows (behind_so (P (some ++ more)) (Q (some ++ more)) (on (some ++ more)) others placed)

  asked_placed : (lines : Lines) (Decided : Succession → NumberedState → Type 0) (records : List Record) (answers : List Answer) → EndsAsked manner Refuses start P point came lines Decided records answers → EndsAsked manner Refuses start Q point came lines Decided records answers
  asked_placed lines Decided records answers it = record {
    told = it.told;
    number = it.number;
    turned = it.turned;
    turns = turns_placed it.told it.number it.turned answers it.turns;
    more = it.more;
    now = it.now;
    asks = it.asks;
    all = it.all;
    follows = it.follows;
  }

  stops_placed : (records : List Record) (answers : List Answer) → Stops manner Refuses start P point came records answers → Stops manner Refuses start Q point came records answers
  stops_placed records answers stops = record {
    told = stops.told;
    number = stops.number;
    turned = stops.turned;
    turns = turns_placed stops.told stops.number stops.turned answers stops.turns;
    more = stops.more;
    at = stops.at;
    all = stops.all;
  }

  pub finishes_placed : (lines : Lines) (Decided : Succession → NumberedState → Type 0) (is_followed : Bool) (records : List Record) (answers : List Answer) → Finishes manner Refuses start P point came lines Decided is_followed records answers → Finishes manner Refuses start Q point came lines Decided is_followed records answers
  finishes_placed lines Decided is_followed records answers (to_the_end turned last given now ends driven follows) = to_the_end turned last given now (ends_placed turned given ends) driven follows
  finishes_placed lines Decided is_followed records answers (to_the_next turned given asked) = to_the_next turned given (asked_placed lines Decided turned given asked)

  pub finishes_in_part_placed : (records : List Record) (answers : List Answer) → FinishesInPart manner Refuses start P point came records answers → FinishesInPart manner Refuses start Q point came records answers
  finishes_in_part_placed records answers (in_turns some given stops) = in_turns some given (stops_placed some given stops)
  finishes_in_part_placed records answers (in_drives turned driven given ends runs kept) = in_drives turned driven given (ends_placed turned given ends) runs kept
  finishes_in_part_placed records answers (at_last lines is_followed some given it) = at_last lines is_followed some given (finishes_placed lines (λ how now. ⊤) is_followed some given it)

-- the same after the runs that were out
module _ (manner : Manner) (Refuses : Succession → NumberedState → Unfollowed → Type 0) (point : Point) (came : Option CameState) (P Q : List Record → ℕ → Type 0) (on : (records : List Record) (behind : ℕ) → P records behind → Q records behind) (start : NumberedState) where
  pub gone_on_placed : (lines : Lines) (Decided : Succession → NumberedState → Type 0) (is_followed : Bool) (records : List Record) (answers : List Answer) → IsGoneOn manner Refuses start P point came lines Decided is_followed records answers → IsGoneOn manner Refuses start Q point came lines Decided is_followed records answers
  gone_on_placed lines Decided is_followed records answers it = record {
    driven = it.driven;
    turned = it.turned;
    now = it.now;
    all = it.all;
    first = it.first;
    follows = it.follows;
    finishes = finishes_placed manner Refuses point came (λ (more : List Record). P (it.driven ++ more)) (λ (more : List Record). Q (it.driven ++ more)) (λ more. on (it.driven ++ more)) it.now lines Decided is_followed it.turned answers it.finishes;
  }

  pub gone_on_in_part_placed : (records : List Record) (answers : List Answer) → IsGoneOnInPart manner Refuses start P point came records answers → IsGoneOnInPart manner Refuses start Q point came records answers
  gone_on_in_part_placed records answers (in_first still runs none) = in_first still runs none
  gone_on_in_part_placed records answers (in_the_rest driven turned now all first follows part) =
      in_the_rest driven turned now all first follows (finishes_in_part_placed manner Refuses point came (λ (more : List Record). P (driven ++ more)) (λ (more : List Record). Q (driven ++ more)) (λ more. on (driven ++ more)) now turned answers part)

  -- all of it is a part too
  pub gone_on_wholly : (lines : Lines) (Decided : Succession → NumberedState → Type 0) (is_followed : Bool) (records : List Record) (answers : List Answer) → IsGoneOn manner Refuses start P point came lines Decided is_followed records answers → IsGoneOnInPart manner Refuses start P point came records answers
  gone_on_wholly lines Decided is_followed records answers it = in_the_rest it.driven it.turned it.now it.all it.first it.follows (at_last lines is_followed it.turned answers (any_finishes manner Refuses point came (λ (more : List Record). P (it.driven ++ more)) it.now lines Decided is_followed it.turned answers it.finishes))

-- ---- the drives

-- the runs that were out were driven first
pub drove_first : {T E : Type 0} (manner : Manner) (result : Result T E) (now : NumberedState) (records : List Record) → manner.is_stepped ≡ false → DrivesAll result now records → DrivesFirst manner result now records
drove_first manner (Ok done) now records still driven = subst (λ (b : Bool). MatchBool b (records ≡ []) (AreDriven now records)) (sym still) driven
drove_first manner (Err fault) now records still driven = (still, driven)

pub none_first : (manner : Manner) (now : NumberedState) → manner.is_stepped ≡ true → AreDrivenFirst manner now []
none_first manner now stepped = subst (λ (b : Bool). MatchBool b (the_none ≡ []) (AreDriven now [])) (sym stepped) refl

-- and at the end
pub drove_last : {T E : Type 0} (manner : Manner) (is_followed : Bool) (result : Result T E) (now : NumberedState) (records : List Record) → manner.is_kept ≡ false → is_followed ≡ false → DrivesAll result now records → DrivesLast manner is_followed result now records
drove_last manner true result now records still ended driven = absurd (let bad = ended in cc)
drove_last manner false (Ok done) now records still ended driven = subst (λ (b : Bool). MatchBool b (records ≡ []) (AreDriven now records)) (sym still) driven
drove_last manner false (Err fault) now records still ended driven = (driven, λ kept. absurd (let bad : false ≡ true = sym still ∙ kept in cc))

none_kept : (manner : Manner) (now : NumberedState) → manner.is_kept ≡ true → AreDrivenLast manner now []
none_kept manner now kept = subst (λ (b : Bool). MatchBool b (the_none ≡ []) (AreDriven now [])) (sym kept) refl

pub none_last : {T : Type 0} (E : Type 0) (done : T) (manner : Manner) (is_followed : Bool) (now : NumberedState) → (manner.is_kept ≡ true) ⊎ (is_followed ≡ true) → DrivesLast manner is_followed (ok_of E done) now []
none_last E done manner true now either = refl
none_last E done manner false now either = elim either [
  | inl kept ↦ none_kept manner now kept
  | inr ended ↦ absurd (let bad = ended in cc)
]

driven_part : (manner : Manner) (now : NumberedState) (records : List Record) (b : Bool) → manner.is_kept ≡ b → MatchBool b (records ≡ []) (AreDriven now records) → AreOfRuns records × (manner.is_kept ≡ true → records ≡ [])
driven_part manner now records true is none = (subst AreOfRuns (sym none) no_runs, λ kept. none)
driven_part manner now records false is driven = (driven.of_runs, λ kept. absurd (let bad : false ≡ true = sym is ∙ kept in cc))

-- what was handed on after it, or could not be
pub settled_last : {T F : Type 0} (E : Type 0) (done : T) (manner : Manner) (is_followed : Bool) (result : Result Bool F) (before now : NumberedState) (records : List Record) → now ≡ before → DrivesLast manner is_followed (ok_of E done) before records → DrivesLast manner is_followed result now records
settled_last E done manner true result before now records same it = it
settled_last E done manner false (Ok comes) before now records same it = subst (λ (e : NumberedState). AreDrivenLast manner e records) (sym same) it
settled_last E done manner false (Err fault) before now records same it = driven_part manner before records manner.is_kept refl it

-- it failed so or so
pub left_last : {E F : Type 0} (T U : Type 0) (fault : E) (again : F) (manner : Manner) (is_followed : Bool) (now : NumberedState) (records : List Record) → DrivesLast manner is_followed (err_of T fault) now records → DrivesLast manner is_followed (err_of U again) now records
left_last T U fault again manner true now records it = it
left_last T U fault again manner false now records it = it

module _ (manner : Manner) (Refuses : Succession → NumberedState → Unfollowed → Type 0) (point : Point) (came : Option CameState) (lines : Lines) (Decided : Succession → NumberedState → Type 0) (old mid new : PrintedState) (at between to : Option (List ℕ)) (failed some fails : ℕ) (given middle answered : Option (List Answer)) where
  abbrev From : List Record → ℕ → Type 0
  From = IsPrintedBehind old.printed at

  -- the lines, and then the runs that were out
  finish_these : (turned last : List Record) (others : List Answer) (is_followed : Bool) (result : Result Bool LiveFault) → IfOk result (λ it. it ≡ is_followed) → EndsOr manner Refuses old.engine From point came lines Decided (ok_of LiveFault is_followed) turned others
      → DrivesLast manner is_followed result new.engine last → GrowsBy (turned ++ last) old at failed new to fails → FinishesOr manner Refuses old.engine From point came lines Decided result (turned ++ last) others
  finish_these turned last others false (Ok it) same ends driven by =
      subst (λ (b : Bool). Finishes manner Refuses old.engine From point came lines Decided b (turned ++ last) others) (sym same) (to_the_end turned last others new.engine ends driven (by.setup, by.follows))
  finish_these turned last others true (Ok it) same ends driven by =
      subst (λ (b : Bool). Finishes manner Refuses old.engine From point came lines Decided b (turned ++ last) others) (sym same)
      (subst (λ (rs : List Record). Finishes manner Refuses old.engine From point came lines Decided true rs others) (sym (ap (λ (t : List Record). turned ++ t) driven ∙ append-nil turned)) (to_the_next turned others ends))
  finish_these turned last others false (Err fault) same ends driven by = in_drives turned last others ends driven.0 driven.1
  finish_these turned last others true (Err fault) same ends driven by =
      subst (λ (rs : List Record). FinishesInPart manner Refuses old.engine From point came rs others) (sym (ap (λ (t : List Record). turned ++ t) driven ∙ append-nil turned)) (at_last lines true turned others (to_the_next turned others (any_asked manner Refuses point came From old.engine lines Decided turned others ends)))

  pub finishes : (is_followed : Bool) (result : Result Bool LiveFault) → IfOk result (λ it. it ≡ is_followed) → GrowsWith (EndsOr manner Refuses old.engine From point came lines Decided (ok_of LiveFault is_followed)) old at failed given mid between some middle
      → GrowsAs (DrivesLast manner is_followed result new.engine) mid between some new to fails → answered ≡ middle → GrowsWith (FinishesOr manner Refuses old.engine From point came lines Decided result) old at failed given new to fails answered
  finishes is_followed result same ends driven kept =
      let by = both_by old mid new at between to failed some fails ends.more driven.more ends.by driven.by in
      record {
        more = ends.more ++ driven.more;
        others = ends.others;
        these = finish_these ends.more driven.more ends.others is_followed result same ends.these driven.these by;
        by = by;
        are_answers = kept ∙ ends.are_answers;
      }

  -- the runs that were out, and then the lines
  gone_on_these : (driven turned : List Record) (others : List Answer) (result : Result Bool LiveFault) → AreDrivenFirst manner mid.engine driven → GrowsBy driven old at failed mid between some → FinishesOr manner Refuses mid.engine (IsPrintedBehind mid.printed between) point came lines Decided result turned others
      → GoesOnOr manner Refuses old.engine From point came lines Decided result (driven ++ turned) others
  gone_on_these driven turned others (Ok is_followed) first by rest = record {
    driven = driven;
    turned = turned;
    now = mid.engine;
    all = refl;
    first = first;
    follows = (by.setup, by.follows);
    finishes = finishes_placed manner Refuses point came (IsPrintedBehind mid.printed between) (λ (more : List Record). From (driven ++ more)) (placed_after driven old mid at between failed some by) mid.engine lines Decided is_followed turned others rest;
  }
  gone_on_these driven turned others (Err fault) first by rest =
      in_the_rest driven turned mid.engine refl first (by.setup, by.follows) (finishes_in_part_placed manner Refuses point came (IsPrintedBehind mid.printed between) (λ (more : List Record). From (driven ++ more)) (placed_after driven old mid at between failed some by) mid.engine turned others rest)

  pub goes_behind : (result : Result Bool LiveFault) → GrowsAs (AreDrivenFirst manner mid.engine) old at failed mid between some → middle ≡ given
      → GrowsWith (FinishesOr manner Refuses mid.engine (IsPrintedBehind mid.printed between) point came lines Decided result) mid between some middle new to fails answered → GrowsWith (GoesOnOr manner Refuses old.engine From point came lines Decided result) old at failed given new to fails answered
  goes_behind result driven same rest = record {
    more = driven.more ++ rest.more;
    others = rest.others;
    these = gone_on_these driven.more rest.more rest.others result driven.these driven.by rest.these;
    by = both_by old mid new at between to failed some fails driven.more rest.more driven.by rest.by;
    are_answers = subst (λ (g : Option (List Answer)). answered ≡ with_answers g rest.others) same rest.are_answers;
  }

-- or not even the runs
pub not_driven_first : (manner : Manner) (Refuses : Succession → NumberedState → Unfollowed → Type 0) (point : Point) (came : Option CameState) (old new : PrintedState) (at to : Option (List ℕ)) (failed fails : ℕ) (given answered : Option (List Answer))
    → GrowsAs (λ records. (manner.is_stepped ≡ false) × AreOfRuns records) old at failed new to fails → answered ≡ given → GrowsWith (IsGoneOnInPart manner Refuses old.engine (IsPrintedBehind old.printed at) point came) old at failed given new to fails answered
not_driven_first manner Refuses point came old new at to failed fails given answered driven same = record {
  more = driven.more;
  others = [];
  these = in_first driven.these.0 driven.these.1 refl;
  by = driven.by;
  are_answers = same ∙ none_given given;
}

-- ---- nothing was done

stays : (engine : NumberedState) → Follows engine [] engine
stays engine = (refl, λ before behind. subst (λ (rs : List Record). IsBehind rs engine) (sym (append-nil before)) behind)

no_turns : (manner : Manner) (Refuses : Succession → NumberedState → Unfollowed → Type 0) (start : NumberedState) (Placed : List Record → ℕ → Type 0) (point : Point) (came : Option CameState) (lines : Lines) → IsAt point came lines → (stepped : Bool) → manner.is_stepped ≡ stepped → IsGoneOnInPart manner Refuses start Placed point came [] []
no_turns manner Refuses start Placed point came lines at false is = in_first is no_runs refl
no_turns manner Refuses start Placed point came lines at true is =
    in_the_rest [] [] start refl (none_first manner start is) (stays start) (in_turns [] [] (record { told = point.told; number = point.number; turned = []; turns = no_turn; more = []; at = at_reading None (λ still. refl) refl (told_all point.base point.told came lines at.stands); all = refl }))

pub none_gone_on : (manner : Manner) (Refuses : Succession → NumberedState → Unfollowed → Type 0) (start : NumberedState) (Placed : List Record → ℕ → Type 0) (point : Point) (came : Option CameState) (lines : Lines) → IsAt point came lines → IsGoneOnInPart manner Refuses start Placed point came [] []
none_gone_on manner Refuses start Placed point came lines at = no_turns manner Refuses start Placed point came lines at manner.is_stepped refl

-- what was decided may be more by now
pub ends_with : (manner : Manner) (Refuses : Succession → NumberedState → Unfollowed → Type 0) (start : NumberedState) (Placed : List Record → ℕ → Type 0) (point : Point) (came : Option CameState) (lines : Lines) (Decided More : Succession → NumberedState → Type 0) (is_followed : Bool) (records : List Record) (answers : List Answer)
    → ((how : Succession) (state : NumberedState) → Decided how state → More how state) → EndsOr {E = LiveFault} manner Refuses start Placed point came lines Decided (Ok is_followed) records answers → EndsOr {E = LiveFault} manner Refuses start Placed point came lines More (Ok is_followed) records answers
ends_with manner Refuses start Placed point came lines Decided More false records answers more it = it
ends_with manner Refuses start Placed point came lines Decided More true records answers more it = record {
  told = it.told;
  number = it.number;
  turned = it.turned;
  turns = it.turns;
  more = it.more;
  now = it.now;
  asks = record {
    line = it.asks.line;
    begins = it.asks.begins;
    one_line = it.asks.one_line;
    how = it.asks.how;
    turn = it.asks.turn;
    is_decided = more it.asks.how it.now it.asks.is_decided;
    number_is = it.asks.number_is;
    stands = it.asks.stands;
  };
  all = it.all;
  follows = it.follows;
}
