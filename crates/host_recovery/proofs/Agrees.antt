-- Recovery says of a whole trace what a replay says of it.
use Rattle.std.proofs.Common.{◌≡◌, ◌+◌, ℕ, Option, Some, None, Result, Ok, Err, List, [], ◌∷◌, ◌++◌, length, length-append, take, refl, ap, sym, subst, ◌∙◌, inl, inr, arith}
use Rattle.std.specs.Fmt.{option_append}
use Rattle.std.proofs.lemmas.List.{length_push, take_all, take_at}
use Rattle.base.specs.declared.or_memory.OrMemory.{OrMemory}
use Rattle.base.specs.declared.or_memory.OrMemory.TheVariants.{OutOfMemory, Fault}
use Rattle.world_calls.specs.declared.carried_line.CarriedLine.{CarriedLine}
use Rattle.world_calls.specs.declared.record.Record.{Record}
use Rattle.world_calls.specs.declared.totals.Totals.{Totals}
use Rattle.world_calls.specs.declared.trace.Trace.{Trace}
use Rattle.world_calls.specs.declared.trace.Version.{Version}
use Rattle.world.specs.World.{Setup, version_of}
use Rattle.world.specs.TotalsOf.{TotalsOf}
use Rattle.engine_core.specs.ByNumber.{IsBehind, IsHistory, NumberedState, sums_behind}
use Rattle.trace_lines.proofs.Tests.{parts_of}
use Rattle.trace.specs.Reading.{IsFaultyLine}
use Rattle.trace.specs.TraceText.{lines_text}
use Rattle.trace.specs.declared.fault.TraceFault.TheVariants.{Header as NoHeader, Line}
use Rattle.trace.proofs.FirstFaulty.{one_faulty_line}
use Rattle.trace.proofs.Printing.{append_nothing, append_three}
use Rattle.trace.proofs.SoFar.{behind_header, one_header}
use Rattle.carried_lines.specs.FirstLine.{continued_header}
use Rattle.whole_trace.specs.Continued.{IsFaultyAfter, IsFaultyCarried, IsFaultyContinued, carried_texts}
use Rattle.whole_trace.specs.WholeText.{AreOrdered, SaysWhole, whole_text}
use Rattle.whole_trace.proofs.Faults.{one_faulty_line as one_continued_line}
use Rattle.whole_trace.proofs.Whole.{apart}
use Rattle.replay.specs.declared.fault.ReplayFault.{ReplayFault}
use Rattle.replay.specs.declared.fault.ReplayFault.TheVariants.{Header, Carried, Behind}
use Rattle.replay.specs.Replaying.{IsFirstFaulty}
use Rattle.replay.proofs.Replayed.{one_behind, sums_are}
use Rattle.host_recovery.specs.AgreesWithReplay.{AgreesWithReplay, IsAccepted, IsNotAccepted, IsVerdictOn}
use Rattle.host_recovery.specs.Recovering.{AreSums, IsCarriedFault, IsRecovered, IsUnfollowed, Recovers, StopsBehind, at_record, at_end}
use Rattle.host_recovery.specs.Segments.{IsBrokenContinued, IsBrokenIn, IsSegment, head_text}
use Rattle.host_recovery.specs.SetupFor.{IsSetupFor, carried_count}
use Rattle.host_recovery.specs.declared.fault.RecoveryFault.{RecoveryFault}
use Rattle.host_recovery.specs.declared.fault.RecoveryFault.TheVariants.{Unread, TooLong, Form, Unfollowed}
use Rattle.host_recovery.specs.declared.recovering.Recovered.{Recovered}
use Rattle.host_recovery.proofs.OneWay.{IsThat, IsWay, has_header, not_broken, one_continued, that_segment, way_left}

-- the first line that does not follow, as a replay has it
first_faulty : (setup : Setup) (records : List Record) (totals : Totals) (count : ℕ) → StopsBehind setup records (Some totals) count → IsFirstFaulty setup records totals count
first_faulty setup records totals count stops = elim stops [
  | at_record before entry more is place lead none ↦
      let front : take count records ≡ before = ap (take count) is ∙ take_at before (entry ∷ more) count (sym place) in
      let longer : take (count + 1) records ≡ before ++ entry ∷ [] = ap (take (count + 1)) (is ∙ sym (one_behind before more entry)) ∙ take_at (before ++ entry ∷ []) more (count + 1) (omega (arith, length_push before entry, place)) in
      record {
        lead = subst (IsHistory setup) (sym front) lead;
        stops = inl (omega (arith, ap length is, length-append before (entry ∷ more), place), λ history. none (subst (IsHistory setup) longer history));
      }
  | at_end last are place lead none ↦
      let same : totals ≡ last = cc in
      record {
        lead = subst (IsHistory setup) (sym (take_all count records (omega (arith, place)))) lead;
        stops = inr (place, λ it. none (subst (TotalsOf setup records) same it));
      }
]

-- the last line has the sums of the records
sums_of_records : (records : List Record) (totals : Totals) (engine : NumberedState) → IsBehind records engine → totals ≡ sums_behind (length records) engine → TotalsOf engine.setup records totals
sums_of_records records totals engine behind are = (behind.world, behind.leads, are ∙ sums_are engine records (length records) behind refl)

-- ---- the text of a trace

trace_way : (carried : Option (List CarriedLine)) (trace : Trace) (text : List ℕ) → whole_text carried trace ≡ Some text → IsWay trace.version carried trace.records.items (Some trace.totals) [] text
trace_way None trace text e =
    let its = behind_header text trace e in
    way_left trace.version None trace.records.items (Some trace.totals) [] its.0 text (ap Some (sym its.2)) (append_nothing (lines_text trace.version trace.records.items trace.totals) ∙ its.1) refl
trace_way (Some lines) trace text e =
    let told = lines_text trace.version trace.records.items trace.totals in
    let there : option_append (head_text trace.version (Some lines)) told ≡ Some text = append_three (Some (continued_header trace.version)) (carried_texts trace.version lines) told ∙ e in
    let parts = parts_of (head_text trace.version (Some lines)) told text there in
    way_left trace.version (Some lines) trace.records.items (Some trace.totals) [] parts.1 text (ap (option_append (head_text trace.version (Some lines))) (sym parts.3) ∙ there) (append_nothing told ∙ parts.3) refl

-- ---- what a replay says

accepted : (config : Setup) (carried : Option (List CarriedLine)) (trace : Trace) (setup : Setup) → IsSetupFor config carried setup → trace.version ≡ version_of config → TotalsOf setup trace.records.items trace.totals → IsAccepted config carried trace
accepted config None trace setup fits version sums = (version, subst (λ (s : Setup). TotalsOf s trace.records.items trace.totals) fits sums)
accepted config (Some lines) trace setup fits version sums = record {
  world = fits.0;
  has = fits.1;
  is = (version, subst (λ (s : Setup). TotalsOf s trace.records.items trace.totals) fits.2 sums);
}

stops_in : (config : Setup) (carried : Option (List CarriedLine)) (trace : Trace) (place count : ℕ) (setup : Setup) → IsSetupFor config carried setup → trace.version ≡ version_of config → place ≡ carried_count carried
    → IsFirstFaulty setup trace.records.items trace.totals count → IsNotAccepted config carried trace (Behind place count)
stops_in config None trace place count setup fits version counted first = (version, counted, subst (λ (s : Setup). IsFirstFaulty s trace.records.items trace.totals count) fits first)
stops_in config (Some lines) trace place count setup fits version counted first = record {
  world = fits.0;
  has = fits.1;
  is = (version, counted, subst (λ (s : Setup). IsFirstFaulty s trace.records.items trace.totals count) fits.2 first);
}

other_version : (config : Setup) (carried : Option (List CarriedLine)) (trace : Trace) → (trace.version ≡ version_of config → ⊥) → IsNotAccepted config carried trace Header
other_version config None trace differs = differs
other_version config (Some lines) trace differs = differs

carried_fault : (config : Setup) (carried : Option (List CarriedLine)) (trace : Trace) (place : ℕ) → trace.version ≡ version_of config → IsCarriedFault config carried place → IsNotAccepted config carried trace (Carried place)
carried_fault config None trace place version fault = fault
carried_fault config (Some lines) trace place version fault = (version, fault)

module _ (config : Setup) (carried : Option (List CarriedLine)) (trace : Trace) (text : List ℕ) (ordered : AreOrdered carried) (e : whole_text carried trace ≡ Some text) where
  way : IsWay trace.version carried trace.records.items (Some trace.totals) [] text
  way = trace_way carried trace text e

  abbrev Same : Version → Option (List CarriedLine) → List Record → Option Totals → Type 0
  Same its others records sums = IsThat trace.version carried trace.records.items (Some trace.totals) [] text way its others records sums

  same_as : (its : Version) (others : Option (List CarriedLine)) (records : List Record) (sums : Option Totals) (torn : List ℕ) → IsSegment its others text records sums torn → Same its others records sums
  same_as its others records sums torn segment = that_segment trace.version carried trace.records.items (Some trace.totals) [] text way its others records sums torn segment

  recovered_so : (recovered : Recovered) → IsRecovered config text recovered → IsAccepted config carried trace
  recovered_so recovered it =
      let same = same_as (version_of config) it.carried it.records it.sums it.torn it.segment in
      let sums : trace.totals ≡ sums_behind (length it.records) recovered.engine = subst (λ (o : Option Totals). AreSums o (length it.records) recovered.engine) (sym same.sums_are) it.are_sums in
      accepted config carried trace recovered.engine.setup (subst (λ (c : Option (List CarriedLine)). IsSetupFor config c recovered.engine.setup) (sym same.carried_is) it.setup_is) same.version_is
      (subst (λ (rs : List Record). TotalsOf recovered.engine.setup rs trace.totals) (sym same.records_are) (sums_of_records it.records trace.totals recovered.engine it.behind sums))

  unfollowed_so : (its : Version) (others : Option (List CarriedLine)) (records : List Record) (sums : Option Totals) (fault : ReplayFault) → Same its others records sums → IsUnfollowed config its others records sums fault → IsNotAccepted config carried trace fault
  unfollowed_so its others records sums Header same differs = other_version config carried trace (λ is. differs (sym same.version_is ∙ is))
  unfollowed_so its others records sums (Carried place) same fault =
      carried_fault config carried trace place (same.version_is ∙ fault.0) (subst (λ (c : Option (List CarriedLine)). IsCarriedFault config c place) (sym same.carried_is) fault.1)
  unfollowed_so its others records sums (Behind place count) same stops =
      let after = stops.1 in
      let stops_there : StopsBehind after.setup trace.records.items (Some trace.totals) count =
      subst (λ (rs : List Record). StopsBehind after.setup rs (Some trace.totals) count) (sym same.records_are) (subst (λ (o : Option Totals). StopsBehind after.setup records o count) (sym same.sums_are) after.stops) in
      stops_in config carried trace place count after.setup (subst (λ (c : Option (List CarriedLine)). IsSetupFor config c after.setup) (sym same.carried_is) after.is_setup) (same.version_is ∙ stops.0)
      (stops.2 ∙ ap carried_count (sym same.carried_is)) (first_faulty after.setup trace.records.items trace.totals count stops_there)

  verdict : (result : Result Recovered (OrMemory RecoveryFault)) → Recovers config text result → IsVerdictOn config carried trace result
  verdict (Ok recovered) says = recovered_so recovered says
  verdict (Err OutOfMemory) says = tt
  verdict (Err (Fault Unread)) says = tt
  verdict (Err (Fault TooLong)) says = tt
  verdict (Err (Fault (Form NoHeader))) says = has_header trace.version carried trace.records.items (Some trace.totals) [] text way says
  verdict (Err (Fault (Form (Line number)))) says = not_broken trace.version carried trace.records.items (Some trace.totals) [] text way refl ordered number says
  verdict (Err (Fault (Unfollowed fault))) says = unfollowed_so says.0 says.1 says.2 says.3 fault (same_as says.0 says.1 says.2 says.3 says.4 says.5) says.6

-- ---- the number of a line that is not of the form

faulty_continued : (version : Version) (rest : List ℕ) (number : ℕ) (text : List ℕ) (it : IsBrokenContinued text number) → version ≡ it.version → rest ≡ it.rest → IsFaultyContinued version rest number
faulty_continued version rest number text it same rest_is = elim it.is [
  | inl early ↦ inl (subst (λ (v : Version). IsFaultyCarried v rest number) (sym same) (subst (λ (t : List ℕ). IsFaultyCarried it.version t number) (sym rest_is) early.faulty))
  | inr late ↦ inr (subst (λ (v : Version). IsFaultyAfter v rest number) (sym same) (subst (λ (t : List ℕ). IsFaultyAfter it.version t number) (sym rest_is) late.faulty))
]

one_number : (text : List ℕ) (number other : ℕ) → IsBrokenIn text number → SaysWhole text (Err (Fault (Line other))) → number ≡ other
one_number text number other broken faulty = elim broken [
  | inl plain ↦ elim faulty [
    | inl told ↦
        let first = one_header told.version plain.version told.rest plain.rest (sym told.whole ∙ plain.whole) in
        one_faulty_line.0 plain.version plain.rest number other plain.is.faulty (subst (λ (v : Version). IsFaultyLine v plain.rest other) first.0 (subst (λ (t : List ℕ). IsFaultyLine told.version t other) first.1 told.is))
    | inr told ↦ absurd (apart told.version plain.version text told.rest plain.rest told.whole plain.whole)
  ]
  | inr it ↦ elim faulty [
    | inl told ↦ absurd (apart it.version told.version text it.rest told.rest it.whole told.whole)
    | inr told ↦
        let first = one_continued told.version it.version told.rest it.rest (sym told.whole ∙ it.whole) in
        one_continued_line.once told.version told.rest number other (faulty_continued told.version told.rest number text it first.0 first.1) told.is
  ]
]

pub agrees_with_replay : AgreesWithReplay
agrees_with_replay = (λ config carried trace text result ordered e says. verdict config carried trace text ordered e result says, one_number)
