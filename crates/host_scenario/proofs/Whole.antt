-- The whole history of an engine that was shared, with its sums.
use Rattle.std.proofs.Common.{◌≡◌, ◌≢◌, ◌+◌, ℕ, List, [], ◌∷◌, ◌++◌, All, take, Some, None, ap, append-nil, length, refl, sym, subst, ◌∙◌}
use Rattle.std.proofs.lemmas.List.Elements.{All-head}
use Rattle.world_calls.specs.declared.record.Record.{Record}
use Rattle.world_calls.specs.declared.totals.Totals.{Totals}
use Rattle.world_calls.specs.declared.trace.Version.{Version}
use Rattle.world.specs.World.{Setup, version_of}
use Rattle.world.specs.Lawful.{IsLawful}
use Rattle.world.specs.WorldRun.{WorldRun}
use Rattle.world.specs.Flat.{flat}
use Rattle.world.specs.TotalsOf.{TotalsOf}
use Rattle.engine_core.specs.EngineState.{EngineState}
use Rattle.monitor.specs.Telling.{Agrees, CallerState}
use Rattle.engine_lock.specs.Sharing.{Closes, IsSince}
use Rattle.scenario.specs.Commands.{Step}
use Rattle.ccb.specs.Completion.{Outcome}
use Rattle.workers.specs.Recorded.{completions_of}
use Rattle.host_scenario.specs.Asked.{AreOf, by_host, calls_of, is_held}
use Rattle.host_scenario.specs.Served.{AreServed, HasTaken, completes_of}
use Rattle.host_scenario.specs.Faults.{IsOfRun, IsOfSteps, line_of}
use Rattle.host_scenario.specs.Traces.{HasMade, IsOfScenario, IsTraceOf}
use Rattle.host_scenario.specs.Turns.{AreInTurn, AreInTurnSoFar}
use Rattle.host_scenario.proofs.Counted.{all_are_own}
use Rattle.host_scenario.proofs.Taken.{in_their_order}
use Rattle.host_scenario.specs.declared.host.RunFault.{RunFault}

-- the host's caller is the first of those that are handed in
pub record HasFirst (caller : CallerState) (callers : List CallerState) : Type 0 where
  pub rest : List CallerState
  pub is : callers ≡ caller ∷ rest

pub first_push : (caller more : CallerState) (callers now : List CallerState) → now ≡ callers ++ more ∷ [] → HasFirst caller callers → HasFirst caller now
first_push caller more callers now is first = record {
  rest = first.rest ++ more ∷ [];
  is = is ∙ ap (λ (xs : List CallerState). xs ++ more ∷ []) first.is;
}

pub first_alone : (caller : CallerState) (callers now : List CallerState) → now ≡ callers ++ caller ∷ [] → callers ≡ [] → HasFirst caller now
first_alone caller callers now is none = record { rest = []; is = is ∙ ap (λ (xs : List CallerState). xs ++ caller ∷ []) none }

pub has_made : (setup : Setup) (begun : List Record) (callers : List CallerState) (caller : CallerState) (engine : EngineState) (told : List Record) → Closes setup begun callers engine → HasFirst caller callers → told ≡ engine.history → HasMade caller told
has_made setup begun callers caller engine told closes first all = record {
  history = closes.history;
  its = closes.its ∙ sym all;
  own = (All-head (Agrees closes.history) caller first.rest (subst (λ (xs : List CallerState). All (Agrees closes.history) xs) first.is closes.agree)).own;
}

pub whole_trace : (setup : Setup) (begun : List Record) (calls : ℕ) (engine : EngineState) (version : Version) (records : List Record) (totals : Totals) → IsSince setup begun calls engine → version ≡ version_of engine.setup → records ≡ engine.history → TotalsOf engine.setup engine.history totals → IsTraceOf setup version records totals
whole_trace setup begun calls engine version records totals since spoken all sums = record {
  version_is = subst (λ (s : Setup). version ≡ version_of s) since.setup_is spoken;
  lawful = subst IsLawful since.setup_is since.run.lawful;
  world = engine.world;
  run = subst (λ (s : Setup). WorldRun s (flat records) engine.world) since.setup_is (subst (λ (h : List Record). WorldRun engine.setup (flat h) engine.world) (sym all) since.run.run);
  sums = subst (λ (s : Setup). TotalsOf s records totals) since.setup_is (subst (λ (h : List Record). TotalsOf engine.setup h totals) (sym all) sums);
}

-- the host's records are all of their kind, if there are as many
made_all : (version : Version) (steps : List Step) (caller : CallerState) (told : List Record) → HasMade caller told → AreOf caller.mine (calls_of version steps) → length (by_host told) ≡ length caller.mine → by_host told ≡ caller.mine
made_all version steps caller told made are count = all_are_own version steps caller.number made.history told caller.mine are made.own made.its count

-- what was put was recorded, or is left
served_so : (workers : ℕ) (put left asked some : List Outcome) (told : List Record) → HasTaken workers put left told → length (completions_of told) + length left ≡ length put → put ≡ asked → left ≡ some → AreServed asked some told
served_so workers put left asked some told taken many put_is left_is =
    subst (λ (xs : List Outcome). AreServed xs some told) put_is
    (subst (λ (xs : List Outcome). AreServed put xs told) left_is (record { workers = workers; taken = taken; no_more = many }))

pub of_scenario : (version : Version) (steps : List Step) (caller : CallerState) (told : List Record) (workers : ℕ) (put left : List Outcome) → HasMade caller told → AreOf caller.mine (calls_of version steps) → length (by_host told) ≡ length caller.mine
    → HasTaken workers put left told → length (completions_of told) + length left ≡ length put → put ≡ completes_of steps → left ≡ [] → AreInTurn steps told → IsOfScenario version steps told
of_scenario version steps caller told workers put left made are count taken many put_is none turns = record {
  asked = subst (λ (rs : List Record). AreOf rs (calls_of version steps)) (sym (made_all version steps caller told made are count)) are;
  served = served_so workers put left (completes_of steps) [] told taken many put_is none;
  turns = turns;
}

pub in_order : (steps : List Step) (told : List Record) (workers : ℕ) (put left : List Outcome) → HasTaken workers put left told → length (completions_of told) + length left ≡ length put → put ≡ completes_of steps → left ≡ [] → workers ≡ 1 → completions_of told ≡ completes_of steps
in_order steps told workers put left taken many put_is none one =
    sym (append-nil (completions_of told))
    ∙ (ap (λ (xs : List Outcome). completions_of told ++ xs) (sym none) ∙ (in_their_order workers put left told taken many one ∙ put_is))

-- a fault by the records that the host made is one in the history that the run leaves
pub of_run : (setup : Setup) (steps : List Step) (caller : CallerState) (version : Version) (told : List Record) (totals : Totals) (fault : RunFault) (workers count : ℕ) (put left : List Outcome) → IsTraceOf setup version told totals → HasMade caller told → IsOfSteps (version_of setup) steps count caller.mine put fault
    → ((line_of fault ≢ None) → (length (by_host told) ≡ length caller.mine) × HasTaken workers put left told × (length (completions_of told) + length left ≡ length put) × AreInTurnSoFar (take count steps) told) → IsOfRun setup steps fault
of_run setup steps caller version told totals fault workers count put left trace made of all line named =
    let it = of line named in
    let so = all (λ none. let bad : Some line ≡ None = sym named ∙ none in absurd cc) in
    let same = made_all (version_of setup) it.unheld.before caller told made it.unheld.asked so.0 in record {
      history = told;
      legal = (trace.world, trace.run);
      unheld = record {
        before = it.unheld.before;
        step = it.unheld.step;
        after = it.unheld.after;
        steps_are = it.unheld.steps_are;
        freeze = it.unheld.freeze;
        release = it.unheld.release;
        line_is = it.unheld.line_is;
        asked = subst (λ (rs : List Record). AreOf rs (calls_of (version_of setup) it.unheld.before)) (sym same) it.unheld.asked;
        unheld = ap (is_held it.unheld.freeze) same ∙ it.unheld.unheld;
      };
      left = left;
      served = served_so workers put left (completes_of it.unheld.before) left told so.1 so.2 it.put_is refl;
      turns = subst (λ (some : List Step). AreInTurnSoFar some told) (sym it.before_is) so.3;
    }

pub some_line : (line : ℕ) (fault : RunFault) → line_of fault ≡ Some line → line_of fault ≢ None
some_line line fault named none = let bad : Some line ≡ None = sym named ∙ none in absurd cc
