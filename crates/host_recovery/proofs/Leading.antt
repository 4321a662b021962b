-- Where the records of a segment lead, record by record.
use Rattle.std.proofs.Common.{◌≡◌, ℕ, Bool, true, false, is_some, Option, Some, None, List, [], ◌∷◌, ◌++◌, length, refl, ap, sym, subst, ◌∙◌, append_assoc}
use Rattle.world_calls.specs.declared.carried_line.CarriedLine.{CarriedLine}
use Rattle.world_calls.specs.declared.record.Record.{Record}
use Rattle.world_calls.specs.declared.totals.Totals.{Totals}
use Rattle.world_calls.specs.declared.trace.Version.{Version}
use Rattle.world.specs.World.{Setup}
use Rattle.engine_core.specs.ByNumber.{NumberedState, sums_behind}
use Rattle.replay.specs.declared.fault.ReplayFault.{ReplayFault}
use Rattle.replay.specs.declared.fault.ReplayFault.TheVariants.{Header, Carried, Behind}
use Rattle.replay.specs.Replaying.{FollowsIf}
use Rattle.replay.proofs.Replayed.{history_behind, refuses}
use Rattle.host_recovery.specs.Recovering.{IsUnfollowed, StopsBehind, at_end, at_record}
use Rattle.host_recovery.specs.Reads.{AllLead, Leads}
use Rattle.host_recovery.specs.SetupFor.{IsSetupFor, carried_count}

-- ---- once a line did not follow

stops_still : (setup : Setup) (records : List Record) (entry : Record) (count : ℕ) → StopsBehind setup records None count → StopsBehind setup (records ++ entry ∷ []) None count
stops_still setup records entry count stops = elim stops [
  | at_record front told more whole place lead none ↦
      at_record front told (more ++ entry ∷ []) (ap (λ (rs : List Record). rs ++ entry ∷ []) whole ∙ append_assoc front (told ∷ more) (entry ∷ [])) place lead none
  | at_end totals sums place lead none ↦ absurd (let bad : None ≡ Some totals = sums in cc)
]

stops_before_end : (setup : Setup) (records : List Record) (totals : Totals) (count : ℕ) → StopsBehind setup records None count → StopsBehind setup records (Some totals) count
stops_before_end setup records totals count stops = elim stops [
  | at_record front told more whole place lead none ↦ at_record front told more whole place lead none
  | at_end others sums place lead none ↦ absurd (let bad : None ≡ Some others = sums in cc)
]

module _ (config : Setup) (version : Version) (carried : Option (List CarriedLine)) (records : List Record) where
  more_records : (entry : Record) (fault : ReplayFault) → IsUnfollowed config version carried records None fault → IsUnfollowed config version carried (records ++ entry ∷ []) None fault
  more_records entry Header is = is
  more_records entry (Carried place) is = is
  more_records entry (Behind lines count) is = (
    is.0,
    record { setup = is.1.setup; is_setup = is.1.is_setup; stops = stops_still is.1.setup records entry count is.1.stops },
    is.2,
  )

  then_end : (totals : Totals) (fault : ReplayFault) → IsUnfollowed config version carried records None fault → IsUnfollowed config version carried records (Some totals) fault
  then_end totals Header is = is
  then_end totals (Carried place) is = is
  then_end totals (Behind lines count) is = (
    is.0,
    record { setup = is.1.setup; is_setup = is.1.is_setup; stops = stops_before_end is.1.setup records totals count is.1.stops },
    is.2,
  )

  -- a line did not follow before
  pub some_still : (entry : Record) (fault : Option ReplayFault) (old new : NumberedState) → is_some fault ≡ true → Leads config version carried records None fault old → Leads config version carried (records ++ entry ∷ []) None fault new
  some_still entry None old new is leads = absurd (let bad : false ≡ true = is in cc)
  some_still entry (Some fault) old new is leads = more_records entry fault leads

  pub some_at_end : (totals : Totals) (fault : Option ReplayFault) (old new : NumberedState) → is_some fault ≡ true → Leads config version carried records None fault old → Leads config version carried records (Some totals) fault new
  some_at_end totals None old new is leads = absurd (let bad : false ≡ true = is in cc)
  some_at_end totals (Some fault) old new is leads = then_end totals fault leads

pub none_of : (fault : Option ReplayFault) → is_some fault ≡ false → fault ≡ None
none_of None is = refl
none_of (Some fault) is = absurd (let bad : true ≡ false = is in cc)

-- ---- while all lines follow

none_yet : (config : Setup) (version : Version) (carried : Option (List CarriedLine)) (records : List Record) (fault : Option ReplayFault) (engine : NumberedState) → fault ≡ None → Leads config version carried records None fault engine
    → AllLead config version carried records None engine
none_yet config version carried records None engine is leads = leads
none_yet config version carried records (Some fault) engine is leads = absurd (let bad : Some fault ≡ None = is in cc)

module _ (config : Setup) (version : Version) (carried : Option (List CarriedLine)) (records : List Record) (fault : Option ReplayFault) (old new : NumberedState) (none : fault ≡ None)
    (leads : Leads config version carried records None fault old) where
  abbrev lead : AllLead config version carried records None old
  lead = none_yet config version carried records fault old none leads

  -- the record follows
  pub follows_so : (entry : Record) (yes : Bool) → yes ≡ true → FollowsIf yes old entry new → new.setup ≡ old.setup → (after : Option ReplayFault) → after ≡ None → Leads config version carried (records ++ entry ∷ []) None after new
  follows_so entry true is follows same None still = record {
    version_is = lead.version_is;
    setup_is = subst (IsSetupFor config carried) (sym same) lead.setup_is;
    behind = follows records lead.behind;
    sums_are = tt;
  }
  follows_so entry true is follows same (Some fault) still = absurd (let bad : Some fault ≡ None = still in cc)
  follows_so entry false is follows same after still = absurd (let bad : false ≡ true = is in cc)

  -- or it does not
  pub stops_so : (entry : Record) (yes : Bool) (lines count : ℕ) → yes ≡ false → FollowsIf yes old entry new → lines ≡ carried_count carried → count ≡ length records
      → (after : Option ReplayFault) → after ≡ Some (Behind lines count) → Leads config version carried (records ++ entry ∷ []) None after new
  stops_so entry true lines count is follows lined counted after still = absurd (let bad : true ≡ false = is in cc)
  stops_so entry false lines count is cannot lined counted after still =
      let stops : StopsBehind old.setup (records ++ entry ∷ []) None count =
      at_record records entry [] refl counted (history_behind old.setup old records refl lead.behind) (λ history. cannot records lead.behind history) in
      subst (λ (o : Option ReplayFault). Leads config version carried (records ++ entry ∷ []) None o new) (sym still)
      (lead.version_is, record { setup = old.setup; is_setup = lead.setup_is; stops = stops }, lined)

  -- the last line has their sums
  pub sums_so : (totals : Totals) (count : ℕ) → count ≡ length records → totals ≡ sums_behind count old → Leads config version carried records (Some totals) fault old
  sums_so totals count counted is =
      let all : AllLead config version carried records (Some totals) old = record {
        version_is = lead.version_is;
        setup_is = lead.setup_is;
        behind = lead.behind;
        sums_are = is ∙ ap (λ (n : ℕ). sums_behind n old) counted;
      } in
      subst (λ (o : Option ReplayFault). Leads config version carried records (Some totals) o old) (sym none) all

  -- or it has not
  pub no_sums_so : (totals : Totals) (lines count : ℕ) → lines ≡ carried_count carried → count ≡ length records → (sums_behind count old ≡ totals → ⊥)
      → (after : Option ReplayFault) → after ≡ Some (Behind lines count) → Leads config version carried records (Some totals) after old
  no_sums_so totals lines count lined counted differ after still =
      let stops : StopsBehind old.setup records (Some totals) count =
      at_end totals refl counted (history_behind old.setup old records refl lead.behind) (refuses old.setup old records count totals lead.behind refl counted differ) in
      subst (λ (o : Option ReplayFault). Leads config version carried records (Some totals) o old) (sym still)
      (lead.version_is, record { setup = old.setup; is_setup = lead.setup_is; stops = stops }, lined)
