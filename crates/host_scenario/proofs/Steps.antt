-- The steps that the host has carried out, one by one.
use Rattle.std.proofs.Common.{◌≡◌, ◌≢◌, ℕ, ◌+◌, ◌<◌, true, false, List, [], ◌∷◌, ◌++◌, take, drop, length, Option, Some, None, refl, ap, sym, subst, ◌∙◌, append-nil, append_assoc, map, arith}
use Rattle.std.specs.Prelude.{MatchOption, slice_index_or}
use mathlib.Core.List.{map-append}
use Rattle.std.proofs.lemmas.List.{take-append-drop, take_all, take_more}
use Rattle.freeze_ledger.specs.declared.freeze.Freeze.{Freeze}
use Rattle.ccb.specs.Completion.{Outcome}
use Rattle.world_calls.specs.declared.call.Call.{Call}
use Rattle.world_calls.specs.declared.call_answer.CallAnswer.{CallAnswer}
use Rattle.world_calls.specs.declared.record.Record.{Record}
use Rattle.world_calls.specs.declared.record.Record.TheVariants.{Called}
use Rattle.world_calls.specs.declared.trace.Version.{Version}
use Rattle.scenario.specs.Commands.{Step}
use Rattle.host_scenario.specs.Asked.{AreOf, call_in, call_of, calls_of, is_held, with_call}
use Rattle.host_scenario.specs.Served.{completes_of, completion_for}
use Rattle.host_scenario.specs.Faults.{StopsAt, line_of}
use Rattle.host_scenario.specs.Holding.{Asks, HoldsAll, IsOfStep}
use Rattle.host_scenario.specs.declared.host.RunFault.{RunFault}

-- so many steps were carried out
pub record Done (version : Version) (steps : List Step) (count : ℕ) (made : List Record) (tokens : List Freeze) (put : List Outcome) : Type 0 where
  pub asked : AreOf made (calls_of version (take count steps))
  pub holds : HoldsAll made tokens
  pub put_is : put ≡ completes_of (take count steps)

with_append : (o : Option Call) (calls more : List Call) → with_call o (calls ++ more) ≡ with_call o calls ++ more
with_append None calls more = refl
with_append (Some call) calls more = refl

calls_push : (version : Version) (steps : List Step) (step : Step) → calls_of version (steps ++ step ∷ []) ≡ calls_of version steps ++ with_call (call_of version step.command) []
calls_push version [] step = refl
calls_push version (first ∷ rest) step = ap (with_call (call_of version first.command)) (calls_push version rest step) ∙ with_append (call_of version first.command) (calls_of version rest) (with_call (call_of version step.command) [])

completes_push : (steps : List Step) (step : Step) → completes_of (steps ++ step ∷ []) ≡ completes_of steps ++ completion_for step.command
completes_push [] step = append-nil (completion_for step.command)
completes_push (first ∷ rest) step =
    ap (λ (xs : List Outcome). completion_for first.command ++ xs) (completes_push rest step)
    ∙ sym (append_assoc (completion_for first.command) (completes_of rest) (completion_for step.command))

-- one call more, if the step has one
asks_by : (o : Option Call) (calls : List Call) (before after : List Record) → AreOf before calls → MatchOption o (after ≡ before) (λ call. (answer : CallAnswer) × (after ≡ before ++ Called answer call ∷ [])) → AreOf after (calls ++ with_call o [])
asks_by None calls before after are same = ap (map call_in) same ∙ (are ∙ ap (map Some) (sym (append-nil calls)))
asks_by (Some call) calls before after are told =
    ap (map call_in) told.1
    ∙ (map-append call_in before (Called told.0 call ∷ [])
    ∙ (ap (λ (os : List (Option Call)). os ++ Some call ∷ []) are ∙ sym (map-append Some calls (call ∷ []))))

-- the steps before this one, and this one
here_is : (steps : List Step) (index : ℕ) (step : Step) → index < length steps → step ≡ slice_index_or steps index step → take (index + 1) steps ≡ take index steps ++ step ∷ []
here_is steps index step inside is = take_more steps index step inside ∙ ap (λ (s : Step). take index steps ++ s ∷ []) (sym is)

pub none_done : (version : Version) (steps : List Step) (made : List Record) (tokens : List Freeze) (put : List Outcome) → made ≡ [] → put ≡ [] → Done version steps 0 made tokens put
none_done version steps made tokens put none put_none = record {
  asked = ap (map call_in) none;
  holds = λ number held. absurd (let bad : false ≡ true = sym (ap (is_held number) none) ∙ held in cc);
  put_is = put_none;
}

pub one_more : (version : Version) (steps : List Step) (index : ℕ) (step : Step) (before after : List Record) (tokens now : List Freeze) (put more : List Outcome) → Done version steps index before tokens put → index < length steps → step ≡ slice_index_or steps index step → Asks version step before after → HoldsAll after now → more ≡ put ++ completion_for step.command → Done version steps (index + 1) after now more
one_more version steps index step before after tokens now put more done inside is asks holds more_is = record {
  asked = subst (λ (some : List Step). AreOf after (calls_of version some)) (sym (here_is steps index step inside is))
      (subst (AreOf after) (sym (calls_push version (take index steps) step)) (asks_by (call_of version step.command) (calls_of version (take index steps)) before after done.asked asks));
  holds = holds;
  put_is = more_is
      ∙ (ap (λ (xs : List Outcome). xs ++ completion_for step.command) done.put_is
      ∙ (sym (completes_push (take index steps) step) ∙ ap completes_of (sym (here_is steps index step inside is))));
}

split_at : (steps : List Step) (index : ℕ) (step : Step) → index < length steps → step ≡ slice_index_or steps index step → steps ≡ take index steps ++ step ∷ drop (index + 1) steps
split_at steps index step inside is =
    sym (take-append-drop (index + 1) steps)
    ∙ (ap (λ (some : List Step). some ++ drop (index + 1) steps) (here_is steps index step inside is) ∙ append_assoc (take index steps) (step ∷ []) (drop (index + 1) steps))

-- the step at which it stopped
pub stopped_at : (version : Version) (steps : List Step) (index : ℕ) (step : Step) (before after : List Record) (tokens : List Freeze) (put now : List Outcome) (fault : RunFault) (count : ℕ) → count ≡ index → Done version steps index before tokens put → index < length steps → step ≡ slice_index_or steps index step → IsOfStep step before after fault → (line_of fault ≢ None → now ≡ put)
    → (line : ℕ) → line_of fault ≡ Some line → StopsAt version steps count after now line
stopped_at version steps index step before after tokens put now fault count count_is done inside is of stays line named =
    let it = of line named in record {
      unheld = record {
        before = take index steps;
        step = step;
        after = drop (index + 1) steps;
        steps_are = split_at steps index step inside is;
        freeze = it.freeze;
        release = it.release;
        line_is = it.line_is;
        asked = subst (λ (made : List Record). AreOf made (calls_of version (take index steps))) (sym it.same) done.asked;
        unheld = ap (is_held it.freeze) it.same ∙ it.unheld;
      };
      before_is = ap (λ (n : ℕ). take n steps) (sym count_is);
      put_is = stays (λ none. let bad : Some line ≡ None = sym named ∙ none in absurd cc) ∙ done.put_is;
    }

-- all steps were carried out
pub all_done : (version : Version) (steps : List Step) (count : ℕ) (made : List Record) (tokens : List Freeze) (put : List Outcome) → Done version steps count made tokens put → count ≡ length steps → AreOf made (calls_of version steps) × (put ≡ completes_of steps)
all_done version steps count made tokens put done all =
    let whole : take count steps ≡ steps = take_all count steps (omega (arith, all)) in (subst (λ (some : List Step). AreOf made (calls_of version some)) whole done.asked, done.put_is ∙ ap completes_of whole)

-- a fault that names a line left what was made as it was
some_line : (o : Option ℕ) → o ≢ None → (line : ℕ) × (o ≡ Some line)
some_line None none = absurd (none refl)
some_line (Some line) none = (line, refl)

pub still_there : (step : Step) (before after : List Record) (fault : RunFault) → IsOfStep step before after fault → line_of fault ≢ None → length after ≡ length before
still_there step before after fault of named = let line = some_line (line_of fault) named in ap length (of line.0 line.1).same
