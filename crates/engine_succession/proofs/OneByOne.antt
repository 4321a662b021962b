-- Lines that come one at a time: one more, the first one at fault, and the engine that begins with them.
use Rattle.std.proofs.Common.{◌≡◌, ◌+◌, true, false, List, [], ◌∷◌, ◌++◌, length, length-append, take, Option, Some, refl, ap, sym, subst, ◌∙◌, arith, append_assoc}
use Rattle.std.proofs.lemmas.List.{length_push, take_at}
use Rattle.freeze_ledger.specs.declared.freeze.Freeze.{Freeze}
use Rattle.world_calls.specs.declared.carried_line.CarriedLine.{CarriedLine}
use Rattle.world_calls.specs.declared.carried_line.CarriedLine.TheVariants as lines
use Rattle.world.specs.Beginning.{IsBeginning}
use Rattle.world.specs.Lawful.{IsLawful}
use Rattle.world.specs.World.{Setup, Transport}
use Rattle.engine_runs.specs.RunsState.{RunsState}
use Rattle.engine_beginning.specs.Begun.{BegunState, IsComplete, IsTokenOf, MayFollow, begun, finished, with_line}
use Rattle.engine_beginning.specs.Lines.{IsRanged, Takes}
use Rattle.engine_core.specs.ByNumber.{NumberedState, guests_of, opened_numbered}
use Rattle.engine_core.specs.Settings.{setup_over}
use Rattle.engine_succession.specs.FromLines.{BeginsNumbered, IsRefused}
use Rattle.engine_succession.specs.Stepwise.{HasBegun, StepwiseState, TakesLine}
use Rattle.engine_succession.specs.Taking.{AreTaken, StopsAt, listed}
use Rattle.engine_succession.specs.declared.beginning.BeginFault.TheVariants.{DoesNotFit}
use Rattle.engine_succession.proofs.Taking.{begins_numbered, entered_is, none_taken, stops_for, taken_push, too_few}

-- before the first line
pub none_begun : (setup : Setup) (state : StepwiseState) → IsLawful setup → state.begun ≡ begun setup → state.guests ≡ [] → HasBegun setup [] state
none_begun setup state lawful is none = record {
  lawful = lawful;
  setup_is = ap (λ (b : BegunState). b.setup) is;
  taken = subst (λ (b : BegunState). AreTaken (begun setup) [] [] b state.guests) (sym is)
      (subst (λ (l : List Freeze). AreTaken (begun setup) [] [] (begun setup) l) (sym none) (none_taken (begun setup) []));
}

same_setup : (line : CarriedLine) (b : BegunState) → (with_line line b).setup ≡ b.setup
same_setup (lines.Numbers ccb freeze run) b = refl
same_setup (lines.Clock reading) b = refl
same_setup (lines.Openings queue openings) b = refl
same_setup (lines.Word table index word) b = refl
same_setup (lines.Ccb ccb) b = refl
same_setup (lines.Freeze freeze) b = refl

-- the tokens are those of all guests' freezes
abbrev pub HasTokens : Setup → BegunState → List Freeze → Type 0
HasTokens setup b guests = (b.setup ≡ setup) × (guests ≡ guests_of b.transport.freezes)

module _ (old new : BegunState) (line : CarriedLine) (token : Option Freeze) (before after : List Freeze) (ranged : IsRanged line) (may : MayFollow old line) (is : new ≡ with_line line old)
    (token_is : IsTokenOf line token) (more : after ≡ before ++ listed token) where
  setup_stays : new.setup ≡ old.setup
  setup_stays = ap (λ (b : BegunState). b.setup) is ∙ same_setup line old

  pub tokens_kept : (setup : Setup) → HasTokens setup old before → HasTokens setup new after
  tokens_kept setup kept = (setup_stays ∙ kept.0, (taken_push old old new [] line token before before after (none_taken old before) ranged may is token_is more).guests_are kept.1)

  pub takes_line : TakesLine (record { begun = old; guests = before }) line true (record { begun = new; guests = after })
  takes_line = λ setup lines has. record {
    lawful = has.lawful;
    setup_is = setup_stays ∙ has.setup_is;
    taken = taken_push (begun setup) old new lines line token [] before after has.taken ranged may is token_is more;
  }

-- no line may come there, whatever comes after it
pub stops_there : (old new : StepwiseState) (line : CarriedLine) → (MayFollow old.begun line → ⊥) → TakesLine old line false new
stops_there old new line cannot = λ setup lines more has.
    let all = lines ++ line ∷ more in
    let front : take (length lines) all ≡ lines = take_at lines (line ∷ more) (length lines) refl in
    let longer : take (length lines + 1) all ≡ lines ++ line ∷ [] =
    ap (take (length lines + 1)) (sym (append_assoc lines (line ∷ []) more)) ∙ take_at (lines ++ line ∷ []) more (length lines + 1) (omega (arith, length_push lines line)) in
    let at : StopsAt (begun setup) all (length lines) = record {
      below = omega (arith, length-append lines (line ∷ more));
      to = old.begun;
      before = subst (λ (xs : List CarriedLine). Takes (begun setup) xs old.begun) (sym front) has.taken.takes;
      line = line;
      with = longer ∙ ap (λ (xs : List CarriedLine). xs ++ line ∷ []) (sym front);
      cannot = cannot;
    } in
    stops_for setup all (DoesNotFit (length lines)) has.lawful at

-- ---- all lines were taken

pub begins_so : (config setup : Setup) (lines : List CarriedLine) (state : StepwiseState) (transport : Transport) (runs : RunsState) (engine : NumberedState) → HasTokens config state.begun state.guests → HasBegun setup lines state → IsComplete state.begun
    → transport ≡ (finished state.begun).transport → runs ≡ record { runs = (finished state.begun).runs; tokens = [] }
    → engine ≡ opened_numbered (setup_over config (Some (record { transport = transport; runs = runs.runs; ended = [] }))) → BeginsNumbered setup lines engine
begins_so config setup lines state transport runs engine kept has complete first second is =
    let same : config ≡ setup = sym kept.0 ∙ has.setup_is in
    begins_numbered setup lines transport runs state.guests engine has.lawful (entered_is setup lines state.begun transport runs state.guests has.taken complete first second)
    (is ∙ ap (λ (s : Setup). opened_numbered (setup_over s (Some (record { transport = transport; runs = runs.runs; ended = [] })))) same)

pub may_begin : (config : Setup) (b : BegunState) (transport : Transport) (runs : RunsState) → b.setup ≡ config → IsBeginning b.setup (finished b) → transport ≡ (finished b).transport → runs ≡ record { runs = (finished b).runs; tokens = [] }
    → IsBeginning config (record { transport = transport; runs = runs.runs; ended = [] })
may_begin config b transport runs same begins first second =
    let world_is : finished b ≡ record { transport = transport; runs = runs.runs; ended = [] } =
    ap (λ (t : Transport). record { transport = t; runs = (finished b).runs; ended = [] }) (sym first)
    ∙ ap (λ (r : RunsState). record { transport = transport; runs = r.runs; ended = [] }) (sym second) in
    subst (λ (s : Setup). IsBeginning s (record { transport = transport; runs = runs.runs; ended = [] })) same (subst (IsBeginning b.setup) world_is begins)

pub few_lines : (setup : Setup) (lines : List CarriedLine) (state : StepwiseState) → HasBegun setup lines state → (IsComplete state.begun → ⊥) → IsRefused setup lines (DoesNotFit (length lines))
few_lines setup lines state has short = too_few setup lines state.begun has.lawful has.taken.takes short
