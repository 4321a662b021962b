-- What a turn is, from the waiting for it to its answer.
use Rattle.std.proofs.Common.{◌≡◌, ◌∙◌, ℕ, ◌+◌, Bool, true, false, Option, Some, None, Result, Ok, Err, List, [], ◌∷◌, ◌++◌, refl, sym, ap, subst, append_assoc, append-nil, drop, inl, inr, if◌then◌else◌}
use Rattle.std.specs.Prelude.{◌⊎◌, IfSome, ⊤}
use Rattle.world_calls.specs.declared.record.Record.{Record}
use Rattle.world_calls.specs.declared.trace.Version.{Version}
use Rattle.world.specs.World.{Setup, version_of}
use Rattle.engine_core.specs.ByNumber.{NumberedState}
use Rattle.host_live.specs.Answering.{Answer, AreBehind, with_answers}
use Rattle.host_live.specs.Growth.{GrowsAs, GrowsBy, PrintedState}
use Rattle.host_live.specs.Inputs.{CameState, all_of}
use Rattle.host_live.specs.LinesCome.{Stands, TellsLine, Waits}
use Rattle.host_live.specs.Requests.{request_told}
use Rattle.host_live.specs.Served.{AnswersDecided, AnswersTurn, Carries, CarriesCut, GrowsWith, IsDecidedTurn, IsLineNow, IsNow, NextIs}
use Rattle.host_live.specs.Successions.{IsDecided, fault_of_unfollowed}
use Rattle.host_live.specs.Turns.{ActsOn, Does, IsOfClock, IsReading, Leads, LeadsInPart, OneTurn, ReadThen, StopsAt, Turn, TurnInPart, answer_to, at_reading, fault_of, in_line, is_answered, whole_line, cut_line, refused_line, timer_due, asked_for, asked_to_quit, asked_to_succeed, call_driven, carried, elsewhere, led_to_none, led_to_part, no_drive, no_request, no_step, no_text, not_held, one_call, one_drive, one_step, only_told, part_all, passed_over, run_live}
use Rattle.host_live.specs.declared.answering.After.{After}
use Rattle.host_live.specs.declared.answering.After.TheVariants as after
use Rattle.host_live.specs.declared.answering.Turn.{Turn as CarriedOut}
use Rattle.host_live.specs.declared.answering.Turn.TheVariants as turn
use Rattle.host_live.specs.declared.served.Served.{Served}
use Rattle.host_live.specs.declared.served.Served.TheVariants as served
use Rattle.host_live.specs.declared.lines.Lines.{Lines}
use Rattle.host_live.specs.declared.lines.Next.{Next}
use Rattle.host_live.specs.declared.lines.Next.TheVariants as next
use Rattle.host_live.specs.declared.manner.Manner.{Manner}
use Rattle.host_live.specs.declared.printed.Printed.{Printed}
use Rattle.host_live.specs.declared.reports.LineFault.{LineFault}
use Rattle.host_live.specs.declared.reports.LineFault.TheVariants.{Form, NotHeld, RunLive}
use Rattle.host_live.specs.declared.reports.Unfollowed.{Unfollowed}
use Rattle.host_live.specs.declared.request.Request.{Request}
use Rattle.host_live.specs.declared.request.Succession.{Succession}
use Rattle.host_live.proofs.Growing.{both_by, by_then}
use Rattle.host_live.proofs.Turning.{read_only, read_these}

abbrev pub ok_of : {T : Type 0} (E : Type 0) → T → Result T E
ok_of E value = Ok value

abbrev pub err_of : (T : Type 0) {E : Type 0} → E → Result T E
err_of T fault = Err fault

-- ---- answers

pub none_given : (given : Option (List Answer)) → given ≡ with_answers given []
none_given None = refl
none_given (Some answers) = ap Some (sym (append-nil answers))

pub both_given : (given : Option (List Answer)) (first second : List Answer) → with_answers (with_answers given first) second ≡ with_answers given (first ++ second)
both_given None first second = refl
both_given (Some answers) first second = ap Some (append_assoc answers first second)

-- ---- a turn

led_in_part : (manner : Manner) (line : List ℕ) (acts : List Record) (became : Served) (now : NumberedState) → Leads manner line acts became now → LeadsInPart manner (version_of now.setup) line acts
led_in_part manner line acts became now (no_text state none nothing) = led_to_none nothing
led_in_part manner line acts became now (no_request state text other none nothing) = led_to_none nothing
led_in_part manner line acts became now (asked_for request same state text other is does keeps) = led_to_part request text is (part_all (request_told (version_of state.setup) request) acts same state does) (λ still of. (keeps still of).0)

pub none_in_part : (manner : Manner) (version : Version) (line : List ℕ) → TurnInPart manner version line []
none_in_part manner version line = record { reading = None; of_clock = λ still. refl; part = read_only None [] (led_to_none refl) refl }

turn_in_part : (manner : Manner) (line : List ℕ) (records : List Record) (became : Served) (now : NumberedState) → Turn manner line records became now → TurnInPart manner (version_of now.setup) line records
turn_in_part manner line records became now (passed_over state text skipped none) = subst (TurnInPart manner (version_of state.setup) line) (sym none) (none_in_part manner (version_of state.setup) line)
turn_in_part manner line records became now (carried reading same state of_clock it) = record { reading = reading; of_clock = of_clock; part = read_these reading (λ acts leads. led_in_part manner line acts same state leads) records it }

-- where the lines stand after these
stands_in : (base told : List ℕ) (came : Option CameState) (lines : Lines) → Stands base came lines told → (line rest : List ℕ) → told ≡ line ++ rest → IfSome came (λ known. (more : List ℕ) × (all_of known ≡ base ++ (line ++ more)))
stands_in base told None lines stands line rest is = tt
stands_in base told (Some known) lines stands line rest is =
    (rest ++ (stands.line ++ drop lines.taken known.piece), stands.is ∙ ap (λ (t : List ℕ). base ++ t) (ap (λ (t : List ℕ). t ++ (stands.line ++ drop lines.taken known.piece)) is ∙ append_assoc line rest (stands.line ++ drop lines.taken known.piece)))

told_on : (base told line : List ℕ) (came : Option CameState) → IfSome came (λ known. (more : List ℕ) × (all_of known ≡ base ++ ((told ++ line) ++ more))) → IfSome came (λ known. (more : List ℕ) × (all_of known ≡ base ++ (told ++ more)))
told_on base told line None it = tt
told_on base told line (Some known) it = (line ++ it.0, it.1 ∙ ap (λ (t : List ℕ). base ++ t) (append_assoc told line it.0))

feed_of : (base told line : List ℕ) (came : Option CameState) → IfSome came (λ known. (more : List ℕ) × (all_of known ≡ base ++ ((told ++ (line ++ 10 ∷ [])) ++ more))) → IfSome came (λ known. (more : List ℕ) × (all_of known ≡ base ++ (told ++ (line ++ 10 ∷ more))))
feed_of base told line None it = tt
feed_of base told line (Some known) it = (it.0, it.1 ∙ ap (λ (t : List ℕ). base ++ t) (append_assoc told (line ++ 10 ∷ []) it.0 ∙ ap (λ (t : List ℕ). told ++ t) (append_assoc line (10 ∷ []) it.0)))

pub told_all : (base told : List ℕ) (came : Option CameState) (lines : Lines) → Stands base came lines told → IfSome came (λ known. (more : List ℕ) × (all_of known ≡ base ++ (told ++ more)))
told_all base told came lines stands = stands_in base told came lines stands told [] (sym (append-nil told))

quit_answer : (manner : Manner) (number : ℕ) (behind : ℕ) → manner.is_told ≡ true → answer_to manner number served.Quit behind ≡ record { line = number; fault = None; behind = behind } ∷ []
quit_answer manner number behind is_told = ap (λ (b : Bool). if b then record { line = number; fault = None; behind = behind } ∷ [] else []) is_told

-- an answer stands where all was handed on
answered_now : (printed : Printed) (at : Option (List ℕ)) (number behind : ℕ) (fault : Option LineFault) (is_given : Bool) → (is_given ≡ true → IsNow printed at behind) → AreBehind (IsNow printed at) (if is_given then record { line = number; fault = fault; behind = behind } ∷ [] else [])
answered_now printed at number behind fault true now = (now refl, tt)
answered_now printed at number behind fault false now = tt

-- what holds of how many bytes were before each answer
pub behind_so : (P Q : ℕ → Type 0) → ((behind : ℕ) → P behind → Q behind) → (answers : List Answer) → AreBehind P answers → AreBehind Q answers
behind_so P Q on [] are = tt
behind_so P Q on (answer ∷ answers) are = (on answer.behind are.0, behind_so P Q on answers are.1)

-- the line that came next, if it is one
abbrev pub line_now : (base told : List ℕ) (came : Option CameState) (old new : Lines) (what : Next) → Waits base old told what came new → (line : List ℕ) × IsLineNow what new line
line_now base told came old new next.Line it = (it.0.line, (it.0.kept, it.0.going))
line_now base told came old new next.Cut it = (it.0.line, tt)
line_now base told came old new next.Nothing it = ([], tt)
line_now base told came old new (next.Due reading) it = ([], tt)
line_now base told came old new next.End it = ([], tt)
line_now base told came old new next.Failed it = ([], tt)

module _ (E F : Type 0) (manner : Manner) (Refuses : Succession → NumberedState → Unfollowed → Type 0) (base told : List ℕ) (came : Option CameState) (old new : Lines) (Decided : Succession → NumberedState → Type 0) (now : NumberedState) (printed : Printed) (at : Option (List ℕ)) (records : List Record) (given answered : Option (List Answer)) where
  -- it was decided whether another engine follows, if a line asks for one
  abbrev Settled : CarriedOut → Type 0
  Settled (turn.Line became) = IsDecided Decided now became
  Settled turn.Timer = ⊤
  Settled turn.End = ⊤

  -- what a line asked for was refused, for such a cause
  record IsTurnedDown (what : Next) (line : List ℕ) (is : CarriedOut) : Type 0 where
    pub how : Succession
    pub why : Unfollowed
    pub came_next : what ≡ next.Line
    pub turned : Turn manner line records (served.Asked how) now
    pub refuses : Refuses how now why
    pub became : is ≡ turn.Line (served.Refused (fault_of_unfollowed why))

  carried_settled : (what : Next) (line : List ℕ) (out is : CarriedOut) → IsDecidedTurn out Refuses Decided now is → Carries manner what line (ok_of E out) now records → (Carries manner what line (ok_of E is) now records × Settled is) ⊎ IsTurnedDown what line is
  carried_settled next.Line line (turn.Line became) is dec turned = elim dec.2 [
    | inl same ↦ inl (subst (λ (o : CarriedOut). Carries manner next.Line line (ok_of E o) now records × Settled o) (sym dec.1) (subst (λ (b : Served). Turn manner line records b now × IsDecided Decided now b) (sym same.0) (turned, same.1)))
    | inr down ↦ inr (record { how = down.0; why = down.1; came_next = refl; turned = subst (λ (b : Served). Turn manner line records b now) down.2 turned; refuses = down.3; became = dec.1 ∙ ap (λ (b : Served). turn.Line b) down.4 })
  ]
  carried_settled next.Cut line (turn.Line became) is dec turned = elim dec.2 [
    | inl same ↦ inl (subst (λ (o : CarriedOut). Carries manner next.Cut line (ok_of E o) now records × Settled o) (sym dec.1) (subst (λ (b : Served). CarriesCut manner (ok_of E (turn.Line b)) records × IsDecided Decided now b) (sym same.0) (turned, same.1)))
    | inr down ↦ absurd (let bad : served.Refused Form ≡ served.Asked down.0 = sym turned.0 ∙ down.2 in cc)
  ]
  carried_settled (next.Due reading) line turn.Timer is dec turned = inl (subst (λ (o : CarriedOut). Carries manner (next.Due reading) line (ok_of E o) now records × Settled o) (sym dec) (turned, tt))
  carried_settled next.Nothing line turn.Timer is dec turned = inl (subst (λ (o : CarriedOut). Carries manner next.Nothing line (ok_of E o) now records × Settled o) (sym dec) (turned, tt))
  carried_settled next.End line turn.End is dec turned = inl (subst (λ (o : CarriedOut). Carries manner next.End line (ok_of E o) now records × Settled o) (sym dec) (turned, tt))
  carried_settled next.Line line turn.Timer is dec turned = absurd turned
  carried_settled next.Line line turn.End is dec turned = absurd turned
  carried_settled next.Cut line turn.Timer is dec turned = absurd turned
  carried_settled next.Cut line turn.End is dec turned = absurd turned
  carried_settled (next.Due reading) line (turn.Line became) is dec turned = absurd turned.1
  carried_settled (next.Due reading) line turn.End is dec turned = absurd turned.1
  carried_settled next.Nothing line (turn.Line became) is dec turned = absurd turned
  carried_settled next.Nothing line turn.End is dec turned = absurd turned
  carried_settled next.End line (turn.Line became) is dec turned = absurd turned
  carried_settled next.End line turn.Timer is dec turned = absurd turned
  carried_settled next.Failed line out is dec turned = absurd turned

  -- what came was carried out, and answered
  next_is : (what : Next) (it : Waits base old told what came new) (out : CarriedOut) (comes : After) → Carries manner what (line_now base told came old new what it).0 (ok_of E out) now records → Settled out
      → AnswersTurn manner new.number out given (ok_of (Unit {0}) comes) answered printed at → (others : List Answer) × (answered ≡ with_answers given others) × NextIs manner Refuses base told old.number came new Decided (ok_of F comes) now printed at records others
  next_is next.Line it (turn.Line became) after.More turned settled answers = (
    answer_to manner new.number became answers.0,
    answers.1,
    (
      it.0.line ++ 10 ∷ [],
      subst (λ (n : ℕ). OneTurn manner Refuses told old.number (it.0.line ++ 10 ∷ []) n records (answer_to manner n became answers.0) now) (sym it.1) (whole_line it.0.line records became answers.0 now it.0.begins it.0.one_line turned answers.3 answers.4),
      answered_now printed at new.number answers.0 (fault_of became) (is_answered manner became) answers.2,
      it.0.stands,
    ),
  )
  next_is next.Line it (turn.Line became) after.End turned settled answers = (
    answer_to manner new.number became answers.0,
    answers.1,
    inr (
      record {
        is_told = answers.3;
        line = it.0.line;
        begins = it.0.begins;
        one_line = it.0.one_line;
        turn = subst (λ (b : Served). Turn manner it.0.line records b now) answers.4 turned;
        behind = answers.0;
        answered = ap (λ (b : Served). answer_to manner new.number b answers.0) answers.4 ∙ (quit_answer manner new.number answers.0 answers.3 ∙ ap (λ (n : ℕ). record { line = n; fault = None; behind = answers.0 } ∷ []) it.1);
        is = feed_of base told it.0.line came (stands_in base (told ++ (it.0.line ++ 10 ∷ [])) came new it.0.stands (told ++ (it.0.line ++ 10 ∷ [])) [] (sym (append-nil (told ++ (it.0.line ++ 10 ∷ [])))));
      },
      answered_now printed at new.number answers.0 (fault_of became) (is_answered manner became) answers.2,
    ),
  )
  next_is next.Line it (turn.Line became) after.Asked turned settled answers = (
    [],
    answers.0 ∙ none_given given,
    (
      refl,
      record {
        line = it.0.line;
        begins = it.0.begins;
        one_line = it.0.one_line;
        how = answers.1;
        turn = subst (λ (b : Served). Turn manner it.0.line records b now) answers.2 turned;
        is_decided = subst (λ (b : Served). IsDecided Decided now b) answers.2 settled;
        number_is = it.1;
        stands = it.0.stands;
      },
    ),
  )
  next_is next.Cut it (turn.Line became) after.More turned settled answers = (
    answer_to manner new.number became answers.0,
    answers.1,
    (
      it.0.line,
      subst (λ (b : Served). OneTurn manner Refuses told old.number it.0.line new.number records (answer_to manner new.number b answers.0) now) (sym turned.0)
          (subst (λ (n : ℕ). OneTurn manner Refuses told old.number it.0.line n records (answer_to manner n (served.Refused Form) answers.0) now) (sym it.1) (cut_line it.0.line turned.1 records answers.0 now it.0.begins it.0.one_line it.0.some turned.2 turned.3)),
      answered_now printed at new.number answers.0 (fault_of became) (is_answered manner became) answers.2,
      it.0.stands,
    ),
  )
  next_is next.Cut it (turn.Line became) after.End turned settled answers = absurd (let bad : served.Refused Form ≡ served.Quit = sym turned.0 ∙ answers.4 in cc)
  next_is next.Cut it (turn.Line became) after.Asked turned settled answers = absurd (let bad : served.Refused Form ≡ served.Asked answers.1 = sym turned.0 ∙ answers.2 in cc)
  next_is (next.Due reading) it turn.Timer after.More turned settled answers =
      ([], answers.0 ∙ none_given given, ([], subst (λ (n : ℕ). OneTurn manner Refuses told old.number [] n records [] now) (sym it.1) (timer_due (Some reading) records now turned.0 turned.1), tt, subst (Stands base came new) (sym (append-nil told)) it.0))
  next_is (next.Due reading) it turn.Timer after.End turned settled answers = absurd (let bad : after.End ≡ after.More = answers.1 in cc)
  next_is (next.Due reading) it turn.Timer after.Asked turned settled answers = absurd (let bad : after.Asked ≡ after.More = answers.1 in cc)
  next_is next.Nothing it turn.Timer after.More turned settled answers =
      ([], answers.0 ∙ none_given given, ([], subst (λ (n : ℕ). OneTurn manner Refuses told old.number [] n records [] now) (sym it.1) (timer_due None records now (λ still. refl) turned), tt, subst (Stands base came new) (sym (append-nil told)) it.0))
  next_is next.Nothing it turn.Timer after.End turned settled answers = absurd (let bad : after.End ≡ after.More = answers.1 in cc)
  next_is next.Nothing it turn.Timer after.Asked turned settled answers = absurd (let bad : after.Asked ≡ after.More = answers.1 in cc)
  next_is next.End it turn.End after.More turned settled answers = absurd (let bad : after.More ≡ after.End = answers.1 in cc)
  next_is next.End it turn.End after.Asked turned settled answers = absurd (let bad : after.Asked ≡ after.End = answers.1 in cc)
  next_is next.End it turn.End after.End turned settled answers = ([], answers.0 ∙ none_given given, inl (turned, refl, it.2))
  next_is next.Line it turn.Timer comes turned settled answers = absurd turned
  next_is next.Line it turn.End comes turned settled answers = absurd turned
  next_is next.Cut it turn.Timer comes turned settled answers = absurd turned
  next_is next.Cut it turn.End comes turned settled answers = absurd turned
  next_is (next.Due reading) it (turn.Line became) comes turned settled answers = absurd turned.1
  next_is (next.Due reading) it turn.End comes turned settled answers = absurd turned.1
  next_is next.Nothing it (turn.Line became) comes turned settled answers = absurd turned
  next_is next.Nothing it turn.End comes turned settled answers = absurd turned
  next_is next.End it (turn.Line became) comes turned settled answers = absurd turned
  next_is next.End it turn.Timer comes turned settled answers = absurd turned
  next_is next.Failed it out comes turned settled answers = absurd turned

  -- a line that asked for another engine was refused, and answered
  refused_is : (it : Waits base old told next.Line came new) (how : Succession) (why : Unfollowed) (comes : After) → Turn manner it.0.line records (served.Asked how) now → Refuses how now why
      → AnswersTurn manner new.number (turn.Line (served.Refused (fault_of_unfollowed why))) given (ok_of (Unit {0}) comes) answered printed at → (others : List Answer) × (answered ≡ with_answers given others) × NextIs manner Refuses base told old.number came new Decided (ok_of F comes) now printed at records others
  refused_is it how why after.More turned refuses answers = (
    answer_to manner new.number (served.Refused (fault_of_unfollowed why)) answers.0,
    answers.1,
    (
      it.0.line ++ 10 ∷ [],
      subst (λ (n : ℕ). OneTurn manner Refuses told old.number (it.0.line ++ 10 ∷ []) n records (answer_to manner n (served.Refused (fault_of_unfollowed why)) answers.0) now) (sym it.1) (refused_line it.0.line how why records answers.0 now it.0.begins it.0.one_line turned refuses),
      answered_now printed at new.number answers.0 (fault_of (served.Refused (fault_of_unfollowed why))) (is_answered manner (served.Refused (fault_of_unfollowed why))) answers.2,
      it.0.stands,
    ),
  )
  refused_is it how why after.End turned refuses answers = absurd (let bad : served.Refused (fault_of_unfollowed why) ≡ served.Quit = answers.4 in cc)
  refused_is it how why after.Asked turned refuses answers = absurd (let bad : served.Refused (fault_of_unfollowed why) ≡ served.Asked answers.1 = answers.2 in cc)

  turned_down : (what : Next) (it : Waits base old told what came new) (is : CarriedOut) (comes : After) → IsTurnedDown what (line_now base told came old new what it).0 is
      → AnswersTurn manner new.number is given (ok_of (Unit {0}) comes) answered printed at → (others : List Answer) × (answered ≡ with_answers given others) × NextIs manner Refuses base told old.number came new Decided (ok_of F comes) now printed at records others
  turned_down next.Line it is comes down answers =
      refused_is it down.how down.why comes down.turned down.refuses (subst (λ (o : CarriedOut). AnswersTurn manner new.number o given (ok_of (Unit {0}) comes) answered printed at) down.became answers)
  turned_down next.Cut it is comes down answers = absurd (let bad : next.Cut ≡ next.Line = down.came_next in cc)
  turned_down next.Nothing it is comes down answers = absurd (let bad : next.Nothing ≡ next.Line = down.came_next in cc)
  turned_down (next.Due reading) it is comes down answers = absurd (let bad : next.Due reading ≡ next.Line = down.came_next in cc)
  turned_down next.End it is comes down answers = absurd (let bad : next.End ≡ next.Line = down.came_next in cc)
  turned_down next.Failed it is comes down answers = absurd (let bad : next.Failed ≡ next.Line = down.came_next in cc)

  -- what came goes on after what was told
  still_told : (what : Next) (it : Waits base old told what came new) → IfSome came (λ known. (more : List ℕ) × (all_of known ≡ base ++ (told ++ more)))
  still_told next.Line it = told_on base told (it.0.line ++ 10 ∷ []) came (stands_in base (told ++ (it.0.line ++ 10 ∷ [])) came new it.0.stands (told ++ (it.0.line ++ 10 ∷ [])) [] (sym (append-nil (told ++ (it.0.line ++ 10 ∷ [])))))
  still_told next.Cut it = told_on base told it.0.line came (stands_in base (told ++ it.0.line) came new it.0.stands (told ++ it.0.line) [] (sym (append-nil (told ++ it.0.line))))
  still_told next.Nothing it = told_all base told came new it.0
  still_told (next.Due reading) it = told_all base told came new it.0
  still_told next.End it = told_all base told came new it.0
  still_told next.Failed it = told_all base told came new it.0

  in_that_line : (it : TellsLine base came new told) → TurnInPart manner (version_of now.setup) it.line records → StopsAt manner (version_of now.setup) base came told records
  in_that_line it part =
      in_line it.line it.begins it.one_line part (feed_of base told it.line came (stands_in base (told ++ (it.line ++ 10 ∷ [])) came new it.stands (told ++ (it.line ++ 10 ∷ [])) [] (sym (append-nil (told ++ (it.line ++ 10 ∷ []))))))

  stops_in_it : (what : Next) (it : Waits base old told what came new) (fault : E) → Carries manner what (line_now base told came old new what it).0 (err_of CarriedOut fault) now records → StopsAt manner (version_of now.setup) base came told records
  stops_in_it next.Line it fault turned = in_that_line it.0 turned
  stops_in_it next.Cut it fault turned = at_reading turned.0 turned.1 turned.2 (still_told next.Cut it)
  stops_in_it next.Nothing it fault turned = absurd turned
  stops_in_it (next.Due reading) it fault turned = at_reading (Some reading) turned.0 turned.1 (still_told (next.Due reading) it)
  stops_in_it next.End it fault turned = absurd turned
  stops_in_it next.Failed it fault turned = at_reading None (λ still. refl) turned (still_told next.Failed it)

  -- the engine stopped in the turn
  pub stops_in : (what : Next) (it : Waits base old told what came new) (fault : E) (last : F) → Carries manner what (line_now base told came old new what it).0 (err_of CarriedOut fault) now records
      → NextIs manner Refuses base told old.number came new Decided (err_of After last) now printed at records []
  stops_in what it fault last turned = (refl, stops_in_it what it fault turned)

  carried_in_it : (what : Next) (it : Waits base old told what came new) (out : CarriedOut) → Carries manner what (line_now base told came old new what it).0 (ok_of E out) now records → StopsAt manner (version_of now.setup) base came told records
  carried_in_it next.Line it (turn.Line became) turned = in_that_line it.0 (turn_in_part manner it.0.line records became now turned)
  carried_in_it next.Cut it (turn.Line became) turned = at_reading turned.1 turned.2 turned.3 (still_told next.Cut it)
  carried_in_it (next.Due reading) it turn.Timer turned = at_reading (Some reading) turned.0 turned.1 (still_told (next.Due reading) it)
  carried_in_it next.Nothing it turn.Timer turned = at_reading None (λ still. refl) turned (still_told next.Nothing it)
  carried_in_it next.End it turn.End turned = at_reading None (λ still. refl) turned (still_told next.End it)
  carried_in_it next.Line it turn.Timer turned = absurd turned
  carried_in_it next.Line it turn.End turned = absurd turned
  carried_in_it next.Cut it turn.Timer turned = absurd turned
  carried_in_it next.Cut it turn.End turned = absurd turned
  carried_in_it (next.Due reading) it (turn.Line became) turned = absurd turned.1
  carried_in_it (next.Due reading) it turn.End turned = absurd turned.1
  carried_in_it next.Nothing it (turn.Line became) turned = absurd turned
  carried_in_it next.Nothing it turn.End turned = absurd turned
  carried_in_it next.End it (turn.Line became) turned = absurd turned
  carried_in_it next.End it turn.Timer turned = absurd turned
  carried_in_it next.Failed it out turned = absurd turned

  -- or could not be answered
  pub next_or : (what : Next) (it : Waits base old told what came new) (out : CarriedOut) (result : Result After F) → Carries manner what (line_now base told came old new what it).0 (ok_of E out) now records
      → AnswersDecided manner new.number out Refuses Decided now given result answered printed at → (others : List Answer) × (answered ≡ with_answers given others) × NextIs manner Refuses base told old.number came new Decided result now printed at records others
  next_or what it out (Ok comes) carries answers =
      elim (carried_settled what (line_now base told came old new what it).0 out answers.0 answers.1 carries) [
        | inl both ↦ next_is what it answers.0 comes both.0 both.1 answers.2
        | inr down ↦ turned_down what it answers.0 comes down answers.2
      ]
  next_or what it out (Err last) carries answers = ([], answers ∙ none_given given, (refl, carried_in_it what it out carries))

-- it stopped before the turn
pub stops_before : {F : Type 0} (manner : Manner) (Refuses : Succession → NumberedState → Unfollowed → Type 0) (base told : List ℕ) (before came : Option CameState) (old new : Lines) (Decided : Succession → NumberedState → Type 0) (now : NumberedState) (printed : Printed) (at : Option (List ℕ)) (last : F) → came ≡ before → Stands base before old told
    → NextIs manner Refuses base told old.number came new Decided (err_of After last) now printed at [] []
stops_before manner Refuses base told before came old new Decided now printed at last same stands =
    (refl, at_reading None (λ still. refl) refl (subst (λ (c : Option CameState). IfSome c (λ known. (more : List ℕ) × (all_of known ≡ base ++ (told ++ more)))) (sym same) (told_all base told before old stands)))

-- what was waited for is after the line before
pub waits_from : (base told : List ℕ) (what : Next) (came : Option CameState) (old mid new : Lines) → mid.number ≡ old.number → Waits base mid told what came new → Waits base old told what came new
waits_from base told next.Line came old mid new same it = (it.0, it.1 ∙ ap (λ (n : ℕ). n + 1) same)
waits_from base told next.Cut came old mid new same it = (it.0, it.1 ∙ ap (λ (n : ℕ). n + 1) same)
waits_from base told next.Nothing came old mid new same it = (it.0, it.1 ∙ same)
waits_from base told (next.Due reading) came old mid new same it = (it.0, it.1 ∙ same)
waits_from base told next.End came old mid new same it = (it.0, it.1 ∙ same, it.2)
waits_from base told next.Failed came old mid new same it = (it.0, it.1 ∙ same)

-- the same of others
pub with_these : {P Q : List Record → List Answer → Type 0} (old new : PrintedState) (at to : Option (List ℕ)) (failed fails : ℕ) (given answered : Option (List Answer)) → ((records : List Record) (answers : List Answer) → P records answers → Q records answers)
    → GrowsWith P old at failed given new to fails answered → GrowsWith Q old at failed given new to fails answered
with_these old new at to failed fails given answered on it = record { more = it.more; others = it.others; these = on it.more it.others it.these; by = it.by; are_answers = it.are_answers }

-- nothing more was made
pub with_then : {P : List Record → List Answer → Type 0} (old mid new : PrintedState) (at between to : Option (List ℕ)) (failed some fails : ℕ) (given middle answered : Option (List Answer)) → GrowsWith P old at failed given mid between some middle → GrowsBy [] mid between some new to fails → answered ≡ middle
    → GrowsWith P old at failed given new to fails answered
with_then old mid new at between to failed some fails given middle answered it by same =
    record { more = it.more; others = it.others; these = it.these; by = by_then it.more old mid new at between to failed some fails it.by by; are_answers = same ∙ it.are_answers }

-- a turn, from the waiting for it to its answer
pub served_so : (E F : Type 0) (manner : Manner) (Refuses : Succession → NumberedState → Unfollowed → Type 0) (base told : List ℕ) (came : Option CameState) (lines later : Lines) (Decided : Succession → NumberedState → Type 0) (what : Next) (it : Waits base lines told what came later) (out : CarriedOut) (result : Result After F) (old mid done new : PrintedState) (at some next_at to : Option (List ℕ)) (failed first second fails : ℕ) (given middle later_given answered : Option (List Answer))
    → GrowsBy [] old at failed mid some first → middle ≡ given → GrowsAs (Carries manner what (line_now base told came lines later what it).0 (ok_of E out) done.engine) mid some first done next_at second → later_given ≡ middle
    → GrowsBy [] done next_at second new to fails → new.engine ≡ done.engine → AnswersDecided manner later.number out Refuses Decided done.engine later_given result answered new.printed to
    → GrowsWith (NextIs manner Refuses base told lines.number came later Decided result new.engine new.printed to) old at failed given new to fails answered
served_so E F manner Refuses base told came lines later Decided what it out result old mid done new at some next_at to failed first second fails given middle later_given answered waited same carried_out still settled engine answers =
    let is = next_or E F manner Refuses base told came lines later Decided done.engine new.printed to carried_out.more later_given answered what it out result carried_out.these answers in
    record {
      more = carried_out.more;
      others = is.0;
      these = subst (λ (e : NumberedState). NextIs manner Refuses base told lines.number came later Decided result e new.printed to carried_out.more is.0) (sym engine) is.2;
      by = by_then carried_out.more old done new at next_at to failed second fails (both_by old mid done at some next_at failed first second [] carried_out.more waited carried_out.by) settled;
      are_answers = is.1 ∙ ap (λ (g : Option (List Answer)). with_answers g is.0) (still ∙ same);
    }

-- the engine stopped in the turn
pub stopped_so : (E F : Type 0) (manner : Manner) (Refuses : Succession → NumberedState → Unfollowed → Type 0) (base told : List ℕ) (came : Option CameState) (lines later : Lines) (Decided : Succession → NumberedState → Type 0) (what : Next) (it : Waits base lines told what came later) (fault : E) (last : F) (old mid done new : PrintedState) (at some next_at to : Option (List ℕ)) (failed first second fails : ℕ) (given middle later_given answered : Option (List Answer))
    → GrowsBy [] old at failed mid some first → middle ≡ given → GrowsAs (Carries manner what (line_now base told came lines later what it).0 (err_of CarriedOut fault) done.engine) mid some first done next_at second → later_given ≡ middle
    → GrowsBy [] done next_at second new to fails → answered ≡ later_given
    → GrowsWith (NextIs manner Refuses base told lines.number came later Decided (err_of After last) new.engine new.printed to) old at failed given new to fails answered
stopped_so E F manner Refuses base told came lines later Decided what it fault last old mid done new at some next_at to failed first second fails given middle later_given answered waited same carried_out still settled kept =
    let stops = stops_in E F manner Refuses base told came lines later Decided done.engine new.printed to carried_out.more given answered what it fault last carried_out.these in
    record {
      more = carried_out.more;
      others = [];
      these = (stops.0, subst (λ (setup : Setup). StopsAt manner (version_of setup) base came told carried_out.more) (sym settled.setup) stops.1);
      by = by_then carried_out.more old done new at next_at to failed second fails (both_by old mid done at some next_at failed first second [] carried_out.more waited carried_out.by) settled;
      are_answers = (kept ∙ (still ∙ same)) ∙ none_given given;
    }

-- it stopped before the turn
pub unserved_so : {F : Type 0} (manner : Manner) (Refuses : Succession → NumberedState → Unfollowed → Type 0) (base told : List ℕ) (before came : Option CameState) (lines later : Lines) (Decided : Succession → NumberedState → Type 0) (last : F) (old new : PrintedState) (at to : Option (List ℕ)) (failed fails : ℕ) (given answered : Option (List Answer))
    → GrowsBy [] old at failed new to fails → answered ≡ given → came ≡ before → Stands base before lines told → GrowsWith (NextIs manner Refuses base told lines.number came later Decided (err_of After last) new.engine new.printed to) old at failed given new to fails answered
unserved_so manner Refuses base told before came lines later Decided last old new at to failed fails given answered by kept same stands = record {
  more = [];
  others = [];
  these = stops_before manner Refuses base told before came lines later Decided new.engine new.printed to last same stands;
  by = by;
  are_answers = kept ∙ none_given given;
}

-- a line that is cut off led to a reading at most
read_of : {P : List Record → Type 0} (now : Option ℕ) (records : List Record) (it : ReadThen now P records) → it.acts ≡ [] → IsReading now records
read_of now records it none = subst (IsReading now) (sym (it.is ∙ (ap (λ (t : List Record). it.reading ++ t) none ∙ append-nil it.reading))) it.read

pub cut_done : (E : Type 0) (manner : Manner) (became : Served) (state : NumberedState) (now : Option ℕ) → IsOfClock manner now → (records : List Record) → ReadThen now (ActsOn manner None (ok_of E became) state) records → CarriesCut manner (ok_of E (turn.Line became)) records
cut_done E manner became state now of_clock records it = (it.these.1, now, of_clock, read_of now records it it.these.0)

pub cut_failed : (E F : Type 0) (manner : Manner) (fault : E) (last : F) (state : NumberedState) (now : Option ℕ) → IsOfClock manner now → (records : List Record) → ReadThen now (ActsOn manner None (err_of Served fault) state) records → CarriesCut manner (err_of CarriedOut last) records
cut_failed E F manner fault last state now of_clock records it = (now, of_clock, read_of now records it it.these)
