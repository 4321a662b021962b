-- Carried lines, one by one: where they lead, and which is the first that does not follow.
use Rattle.std.proofs.Common.{◌≡◌, ℕ, Bool, true, false, is_some, Option, Some, None, Result, Ok, Err, List, [], ◌∷◌, ◌++◌, length, ap, sym, subst, ◌∙◌, append_assoc, append-nil}
use Rattle.std.specs.Prelude.{IfOk}
use Rattle.world_calls.specs.declared.carried_line.CarriedLine.{CarriedLine}
use Rattle.world_calls.specs.declared.trace.Version.{Version}
use Rattle.world.specs.World.{Setup, version_of}
use Rattle.world_laws.proofs.Over.{begins_over}
use Rattle.engine_core.specs.ByNumber.{IsBehind, NumberedState}
use Rattle.engine_core.specs.Settings.{setup_over}
use Rattle.engine_core.proofs.Numbered.{behind_begun}
use Rattle.engine_succession.specs.FromLines.{BeginsNumbered, IsRefused}
use Rattle.engine_succession.specs.Stepwise.{HasBegun, StepwiseState, TakesLine}
use Rattle.engine_succession.specs.declared.beginning.BeginFault.TheVariants.{DoesNotFit}
use Rattle.replay.specs.declared.fault.ReplayFault.{ReplayFault}
use Rattle.replay.specs.declared.fault.ReplayFault.TheVariants.{Header, Carried, Behind}
use Rattle.host_recovery.specs.Carries.{BeginsReading, CarryingState, IsFirstFault, LinesLead}
use Rattle.host_recovery.specs.Reads.{AllLead, Leads, ReadingState}

-- ---- the first line of all

pub lead_first : (config : Setup) (version its : Version) (fault : Option ReplayFault) (beginning : StepwiseState) → IsFirstFault version its fault → its ≡ version_of config → HasBegun config [] beginning → LinesLead config version [] fault beginning
lead_first config version its None beginning is same has = (is ∙ same, has)
lead_first config version its (Some Header) beginning is same has = λ e. is (e ∙ sym same)
lead_first config version its (Some (Carried place)) beginning is same has = absurd is
lead_first config version its (Some (Behind carried count)) beginning is same has = absurd is

-- ---- one line more

module _ (config : Setup) (version : Version) (lines : List CarriedLine) (line : CarriedLine) where
  still : (fault : ReplayFault) (old new : StepwiseState) → LinesLead config version lines (Some fault) old → LinesLead config version (lines ++ line ∷ []) (Some fault) new
  still Header old new leads = leads
  still (Carried place) old new leads = (leads.0, λ more. subst (λ (all : List CarriedLine). IsRefused config all (DoesNotFit place)) (sym (append_assoc lines (line ∷ []) more)) (leads.1 (line ∷ more)))
  still (Behind carried count) old new leads = absurd leads

  -- a line did not follow before
  pub still_not : (fault : Option ReplayFault) (old new : StepwiseState) → is_some fault ≡ true → LinesLead config version lines fault old → LinesLead config version (lines ++ line ∷ []) fault new
  still_not None old new is leads = absurd (let bad : false ≡ true = is in cc)
  still_not (Some fault) old new is leads = still fault old new leads

  all_led : (fault : Option ReplayFault) (old : StepwiseState) → fault ≡ None → LinesLead config version lines fault old → LinesLead config version lines None old
  all_led fault old none = subst (λ (f : Option ReplayFault). LinesLead config version lines f old) none

  -- the line follows
  pub goes_on : (fault after : Option ReplayFault) (old new : StepwiseState) (fits : Bool) → fault ≡ None → fits ≡ true → TakesLine old line fits new → after ≡ None → LinesLead config version lines fault old → LinesLead config version (lines ++ line ∷ []) after new
  goes_on fault after old new true none is takes still_none leads =
      let led = all_led fault old none leads in
      subst (λ (f : Option ReplayFault). LinesLead config version (lines ++ line ∷ []) f new) (sym still_none) (led.0, takes config lines led.1)
  goes_on fault after old new false none is takes still_none leads = absurd (let bad : false ≡ true = is in cc)

  -- or it does not
  pub stops_there : (fault after : Option ReplayFault) (old new later : StepwiseState) (fits : Bool) (count : ℕ) → fault ≡ None → fits ≡ false → TakesLine old line fits new → after ≡ Some (Carried count) → count ≡ length lines
      → LinesLead config version lines fault old → LinesLead config version (lines ++ line ∷ []) after later
  stops_there fault after old new later true count none is takes so counted leads = absurd (let bad : true ≡ false = is in cc)
  stops_there fault after old new later false count none is takes so counted leads =
      let led = all_led fault old none leads in
      let refused : (more : List CarriedLine) → IsRefused config ((lines ++ line ∷ []) ++ more) (DoesNotFit count) = λ more.
      subst (λ (all : List CarriedLine). IsRefused config all (DoesNotFit count)) (sym (append_assoc lines (line ∷ []) more))
      (subst (λ (n : ℕ). IsRefused config (lines ++ line ∷ more) (DoesNotFit n)) (sym counted) (takes config lines more led.1)) in
      subst (λ (f : Option ReplayFault). LinesLead config version (lines ++ line ∷ []) f later) (sym so) (led.0, refused)

-- ---- all lines were taken

module _ (config : Setup) (version : Version) (lines : List CarriedLine) where
  -- a line did not follow
  at_fault : (fault : ReplayFault) (old : StepwiseState) (engine : NumberedState) → LinesLead config version lines (Some fault) old → Leads config version (Some lines) [] None (Some fault) engine
  at_fault Header old engine leads = leads
  at_fault (Carried place) old engine leads = (leads.0, subst (λ (all : List CarriedLine). IsRefused config all (DoesNotFit place)) (append-nil lines) (leads.1 []))
  at_fault (Behind carried count) old engine leads = absurd leads

  pub begins_at_fault : (fault after : Option ReplayFault) (its : ReplayFault) (old : StepwiseState) (engine : NumberedState) → fault ≡ Some its → after ≡ Some its → LinesLead config version lines fault old → Leads config version (Some lines) [] None after engine
  begins_at_fault fault after its old engine is so leads =
      subst (λ (f : Option ReplayFault). Leads config version (Some lines) [] None f engine) (sym so) (at_fault its old engine (subst (λ (f : Option ReplayFault). LinesLead config version lines f old) is leads))

  -- they are too few
  pub begins_too_few : (fault after : Option ReplayFault) (count : ℕ) (old : StepwiseState) (engine : NumberedState) → fault ≡ None → after ≡ Some (Carried count) → count ≡ length lines
      → (HasBegun config lines old → IsRefused config lines (DoesNotFit (length lines))) → LinesLead config version lines fault old → Leads config version (Some lines) [] None after engine
  begins_too_few fault after count old engine none so counted few leads =
      let led = subst (λ (f : Option ReplayFault). LinesLead config version lines f old) none leads in
      subst (λ (f : Option ReplayFault). Leads config version (Some lines) [] None f engine) (sym so)
      (led.0, subst (λ (n : ℕ). IsRefused config lines (DoesNotFit n)) (sym counted) (few led.1))

  begun_engine : (engine : NumberedState) → version ≡ version_of config → BeginsNumbered config lines engine → AllLead config version (Some lines) [] None engine
  begun_engine engine same it =
      let setup = setup_over config (Some it.world) in record {
        version_is = same;
        setup_is = (it.world, it.has, ap (λ (e : NumberedState). e.setup) it.engine_is);
        behind = subst (IsBehind []) (sym it.engine_is) (behind_begun setup (begins_over config (Some it.world) it.world it.has.is));
        sums_are = tt;
      }

  -- an engine begins with them
  pub begins_with : (fault after : Option ReplayFault) (old : StepwiseState) (engine : NumberedState) → fault ≡ None → after ≡ None → (HasBegun config lines old → BeginsNumbered config lines engine)
      → LinesLead config version lines fault old → Leads config version (Some lines) [] None after engine
  begins_with fault after old engine none so begins leads =
      let led = subst (λ (f : Option ReplayFault). LinesLead config version lines f old) none leads in
      subst (λ (f : Option ReplayFault). Leads config version (Some lines) [] None f engine) (sym so) (begun_engine engine led.0 (begins led.1))

-- if there is a segment then
pub fault_begins : {E : Type 0} (carrying : CarryingState) (its : ReplayFault) (result : Result ReadingState E) → carrying.fault ≡ Some its → IfOk result (λ (it : ReadingState). it.fault ≡ Some its) → IfOk result (BeginsReading carrying)
fault_begins carrying its (Ok reading) is so = λ config lines counted leads. begins_at_fault config carrying.version lines carrying.fault reading.fault its carrying.beginning reading.engine is so leads
fault_begins carrying its (Err error) is so = tt
