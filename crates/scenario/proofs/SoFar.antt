-- A scenario is read line by line: what the lines in front of the rest say by their calls, and what is said at the end.
use Rattle.std.proofs.Common.{◌≡◌, ◌≤◌, ◌+◌, ◌==◌, ℕ, Bool, true, false, Option, Some, None, List, [], ◌∷◌, ◌++◌, length, map, refl, sym, ap, subst, ◌∙◌, append_assoc, length-append, if◌then◌else◌, Bor, lit<, arith}
use Rattle.std.specs.List.{position_or_len}
use Rattle.std.proofs.lemmas.List.{map-append}
use Rattle.std.proofs.lemmas.List.Elements.{All-from_get_or}
use Rattle.std.proofs.lemmas.List.Splits.{slice_split_first, slice_split_none}
use Rattle.std.proofs.lemmas.List.Sums.{fails_before_first}
use Rattle.std.proofs.lemmas.Str.Pattern.{IsSplitOnceResult, split_once_first, split_parts}
use Rattle.base.specs.declared.or_memory.OrMemory.{OrMemory}
use Rattle.base.specs.declared.or_memory.OrMemory.TheVariants.{OutOfMemory, Fault}
use Rattle.scenario.specs.declared.reading.FaultyLine.{FaultyLine}
use Rattle.scenario.specs.declared.command.Command.{Command}
use Rattle.scenario.specs.declared.command.Command.TheVariants as commands
use Rattle.scenario.specs.Commands.{Step, command_text, is_drain}
use Rattle.scenario.specs.Keeping.{AreOfLine, calls_in}
use Rattle.scenario.specs.Said.{IfFault, IsFaulty, IsFaultyLine, Say, is_skipped, line_of_step, lines_of, numbered}
use Rattle.scenario.specs.Steps.{steps_of, steps_said, with_first}
use Rattle.scenario.proofs.Made.{call_is, drain_is}
use Rattle.world_calls.specs.declared.call.Call.{Call}
use Rattle.world_calls.specs.declared.trace.Version.{Version}

-- ---- where a text is cut

abbrev is_feed : ℕ → Bool
is_feed byte = byte == 10

-- the first line, and the lines of what follows it
pub cut : (rest : List ℕ) (line behind : Bor (List ℕ)) → IsSplitOnceResult 10 rest (Some (line, behind)) → lines_of rest ≡ line.now ∷ lines_of behind.now
cut rest line behind found =
    let parts = split_once_first 10 rest (Some (line, behind)) found (lit< tt) in
    rw (parts.1, parts.2) (slice_split_first is_feed rest 0 parts.0)

pub shorter : (rest : List ℕ) (line behind : Bor (List ℕ)) → IsSplitOnceResult 10 rest (Some (line, behind)) → length behind.now + 1 ≤ length rest
shorter rest line behind found =
    let whole = (split_parts 10 rest (Some (line, behind)) found (lit< tt)).0 in
    omega (arith, ap length whole, length-append line.now (10 ∷ behind.now))

-- without a line feed there is one line
pub uncut : (rest : List ℕ) → IsSplitOnceResult 10 rest None → lines_of rest ≡ rest ∷ []
uncut rest none =
    let all : position_or_len is_feed rest ≡ length rest = split_once_first 10 rest None none (lit< tt) in
    slice_split_none is_feed rest (All-from_get_or (λ byte. is_feed byte ≡ false) rest 0 (λ i within. fails_before_first is_feed rest i 0 (rw all within)))

-- ---- the lines in front, and more

kept : (test : Bool) (line : ℕ × Option (List ℕ)) (all front more : List (ℕ × Option (List ℕ))) → all ≡ front ++ more → (if test then all else line ∷ all) ≡ (if test then front else line ∷ front) ++ more
kept true line all front more e = e
kept false line all front more e = ap (λ (l : List (ℕ × Option (List ℕ))). line ∷ l) e

numbered_append : (number : ℕ) (front more : List (List ℕ)) → numbered number (front ++ more) ≡ numbered number front ++ numbered (number + length front) more
numbered_append number [] more = ap (λ (n : ℕ). numbered n more) (omega arith)
numbered_append number (line ∷ front) more =
    kept (is_skipped line) (number, Some line) (numbered (number + 1) (front ++ more)) (numbered (number + 1) front) (numbered (number + length (line ∷ front)) more)
    (numbered_append (number + 1) front more ∙ ap (λ (n : ℕ). numbered (number + 1) front ++ numbered n more) (omega arith))

-- ---- the step of a line, by what the line says

pub steps_by : (number : ℕ) (line : List ℕ) (lines : List (List ℕ)) (calls : List Call) (skipped : Bool) → is_skipped line ≡ skipped
    → steps_of number (line ∷ lines) calls ≡ (if skipped then steps_of (number + 1) lines calls else steps_said number line (steps_of (number + 1) lines) calls)
steps_by number line lines calls skipped e = ap (λ (b : Bool). if b then steps_of (number + 1) lines calls else steps_said number line (steps_of (number + 1) lines) calls) e

pub said_by : (number : ℕ) (line : List ℕ) (later : List Call → List Step) (calls : List Call) (drain : Bool) → is_drain line ≡ drain
    → steps_said number line later calls ≡ (if drain then record { line = number; command = commands.Drain } ∷ later calls else with_first number later calls)
said_by number line later calls drain e = ap (λ (b : Bool). if b then record { line = number; command = commands.Drain } ∷ later calls else with_first number later calls) e

-- of a line that says something
by_drain : (number : ℕ) (line : List ℕ) (lines : List (List ℕ)) (calls : List Call) (drain : Bool) → is_skipped line ≡ false → is_drain line ≡ drain
    → steps_of number (line ∷ lines) calls ≡ (if drain then record { line = number; command = commands.Drain } ∷ steps_of (number + 1) lines calls else with_first number (steps_of (number + 1) lines) calls)
by_drain number line lines calls drain e f = steps_by number line lines calls false e ∙ said_by number line (steps_of (number + 1) lines) calls drain f

numbered_by : (number : ℕ) (line : List ℕ) (skipped : Bool) → is_skipped line ≡ skipped → numbered number (line ∷ []) ≡ (if skipped then [] else (number, Some line) ∷ [])
numbered_by number line skipped e = ap (λ (b : Bool). if b then [] else (number, Some line) ∷ []) e

pub skipped_line : (version : Version) (number : ℕ) (line : List ℕ) → is_skipped line ≡ true → AreOfLine version number line []
skipped_line version number line e = record {
  apart = λ lines others. steps_by number line lines others true e ∙ ap (λ (front : List Step). front ++ steps_of (number + 1) lines others) (sym (steps_by number line [] [] true e));
  said = ap (map (line_of_step version)) (steps_by number line [] [] true e) ∙ sym (numbered_by number line true e);
}

drain_line : (version : Version) (number : ℕ) (line : List ℕ) → is_skipped line ≡ false → command_text version commands.Drain ≡ Some line → AreOfLine version number line []
drain_line version number line e said =
    let f = drain_is version line said in record {
      apart = λ lines others. by_drain number line lines others true e f ∙ ap (λ (front : List Step). front ++ steps_of (number + 1) lines others) (sym (by_drain number line [] [] true e f));
      said = ap (map (line_of_step version)) (by_drain number line [] [] true e f) ∙ (ap (λ (text : Option (List ℕ)). (number, text) ∷ []) said ∙ sym (numbered_by number line false e));
    }

call_line : (version : Version) (number : ℕ) (line : List ℕ) (call : Call) → is_skipped line ≡ false → command_text version (commands.Call call) ≡ Some line → AreOfLine version number line (call ∷ [])
call_line version number line call e said =
    let f = call_is version call line said in record {
      apart = λ lines others. by_drain number line lines (call ∷ others) false e f ∙ ap (λ (front : List Step). front ++ steps_of (number + 1) lines others) (sym (by_drain number line [] (call ∷ []) false e f));
      said = ap (map (line_of_step version)) (by_drain number line [] (call ∷ []) false e f) ∙ (ap (λ (text : Option (List ℕ)). (number, text) ∷ []) said ∙ sym (numbered_by number line false e));
    }

pub command_line : (version : Version) (number : ℕ) (line : List ℕ) (command : Command) → is_skipped line ≡ false → command_text version command ≡ Some line → AreOfLine version number line (calls_in command)
command_line version number line (commands.Call call) e said = call_line version number line call e said
command_line version number line commands.Drain e said = drain_line version number line e said

-- ---- the lines in front

-- The lines in front of this rest say the steps that they have by these calls, and the next line has that number. The calls of the
-- lines that follow stand after these.
pub record AreSaidSoFar (version : Version) (text : List ℕ) (calls : List Call) (rest : List ℕ) (number : ℕ) : Type 0 where
  pub front : List (List ℕ)
  pub lines : lines_of text ≡ front ++ lines_of rest
  pub place : number ≡ length front + 1
  pub said : Say version front (steps_of 1 front calls)
  pub apart : (others : List (List ℕ)) (more : List Call) → steps_of 1 (front ++ others) (calls ++ more) ≡ steps_of 1 front calls ++ steps_of number others more

pub begin : (version : Version) (text : List ℕ) → AreSaidSoFar version text [] text 1
begin version text = record { front = []; lines = refl; place = refl; said = refl; apart = λ others more. refl }

module _ (version : Version) (text : List ℕ) (calls : List Call) (rest : List ℕ) (number : ℕ) (so_far : AreSaidSoFar version text calls rest number) where
  module _ (line : List ℕ) (behind : List (List ℕ)) (first : lines_of rest ≡ line ∷ behind) where
    parts : lines_of text ≡ so_far.front ++ line ∷ behind
    parts = so_far.lines ∙ ap (λ (l : List (List ℕ)). so_far.front ++ l) first

    -- the line is not of the form, or memory was refused
    pub first_faulty : (error : OrMemory FaultyLine) → IfFault (λ told. (told ≡ number) × IsFaulty version line) error → IfFault (IsFaultyLine version text) error
    first_faulty OutOfMemory none = tt
    first_faulty (Fault fault) (is, faulty) = record {
      front = so_far.front;
      line = line;
      behind = behind;
      lines = parts;
      place = is ∙ so_far.place;
      steps = steps_of 1 so_far.front calls;
      before = so_far.said;
      faulty = faulty;
    }

    module _ (more : List Call) (are : AreOfLine version number line more) where
      -- the steps are one more, if the line says anything
      steps_more : steps_of 1 (so_far.front ++ line ∷ []) (calls ++ more) ≡ steps_of 1 so_far.front calls ++ steps_of number (line ∷ []) more
      steps_more = so_far.apart (line ∷ []) more

      say_more : Say version (so_far.front ++ line ∷ []) (steps_of 1 (so_far.front ++ line ∷ []) (calls ++ more))
      say_more =
          let next : number ≡ 1 + length so_far.front = omega (arith, so_far.place) in
          ap (map (line_of_step version)) steps_more
          ∙ (map-append (line_of_step version) (steps_of 1 so_far.front calls) (steps_of number (line ∷ []) more)
          ∙ ((λ i. so_far.said i ++ are.said i)
          ∙ (ap (λ (n : ℕ). numbered 1 so_far.front ++ numbered n (line ∷ [])) next
          ∙ sym (numbered_append 1 so_far.front (line ∷ [])))))

      apart_more : (others : List (List ℕ)) (after : List Call)
          → steps_of 1 ((so_far.front ++ line ∷ []) ++ others) ((calls ++ more) ++ after) ≡ steps_of 1 (so_far.front ++ line ∷ []) (calls ++ more) ++ steps_of (number + 1) others after
      apart_more others after =
          (λ i. steps_of 1 (append_assoc so_far.front (line ∷ []) others i) (append_assoc calls more after i))
          ∙ (so_far.apart (line ∷ others) (more ++ after)
          ∙ (ap (λ (l : List Step). steps_of 1 so_far.front calls ++ l) (are.apart others after)
          ∙ (sym (append_assoc (steps_of 1 so_far.front calls) (steps_of number (line ∷ []) more) (steps_of (number + 1) others after))
          ∙ ap (λ (l : List Step). l ++ steps_of (number + 1) others after) (sym steps_more))))

      module _ (new : List Call) (new_is : new ≡ calls ++ more) where
        -- the line was read, and others follow
        pub one_more : (left : List ℕ) → behind ≡ lines_of left → AreSaidSoFar version text new left (number + 1)
        one_more left is = subst (λ (all : List Call). AreSaidSoFar version text all left (number + 1)) (sym new_is) (record {
          front = so_far.front ++ line ∷ [];
          lines = parts ∙ ap (λ (l : List (List ℕ)). so_far.front ++ line ∷ l) is ∙ sym (append_assoc so_far.front (line ∷ []) (lines_of left));
          place = omega (arith, so_far.place, length-append so_far.front (line ∷ []));
          said = say_more;
          apart = apart_more;
        })

        -- the line was read, and was the last
        pub all_said : behind ≡ [] → Say version (lines_of text) (steps_of 1 (lines_of text) new)
        all_said is =
            let whole : so_far.front ++ line ∷ [] ≡ lines_of text = sym (parts ∙ ap (λ (l : List (List ℕ)). so_far.front ++ line ∷ l) is) in
            subst (λ (all : List Call). Say version (lines_of text) (steps_of 1 (lines_of text) all)) (sym new_is)
            (subst (λ (lines : List (List ℕ)). Say version lines (steps_of 1 lines (calls ++ more))) whole say_more)
