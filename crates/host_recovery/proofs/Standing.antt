-- How far a segment was read, and what is said where it ends.
use Rattle.std.proofs.Common.{◌≡◌, ◌+◌, ◌<◌, ◌≤◌, ℕ, Bool, true, false, is_some, Option, Some, None, Result, Ok, Err, List, [], ◌∷◌, ◌++◌, length, length-append, refl, ap, sym, subst, ◌∙◌, append_assoc, append-nil, arith}
use Rattle.std.specs.List.{AllByRecursion, list_all}
use Rattle.std.specs.Fmt.{option_append, with_newline}
use Rattle.std.specs.Io.KnownBytes.{Consumes, IsAtEnd}
use Rattle.std.proofs.KnownBytes.{Consumes-trans}
use Rattle.base.specs.declared.or_memory.OrMemory.{OrMemory}
use Rattle.base.specs.declared.or_memory.OrMemory.TheVariants.{Fault}
use Rattle.world_calls.specs.declared.carried_line.CarriedLine.{CarriedLine}
use Rattle.world_calls.specs.declared.record.Record.{Record}
use Rattle.world_calls.specs.declared.totals.Totals.{Totals}
use Rattle.world_calls.specs.declared.trace.Version.{Version}
use Rattle.world.specs.Beginning.{Begins}
use Rattle.world.specs.World.{Setup, version_of}
use Rattle.world.specs.Lawful.{IsLawful}
use Rattle.engine_core.specs.ByNumber.{NumberedState, IsBehind, opened_numbered}
use Rattle.engine_core.proofs.Numbered.{behind_begun}
use Rattle.trace_lines.specs.Written.{Reads}
use Rattle.trace.specs.Reading.{HasNoLine, MayNotFollow, front_lines, front_text}
use Rattle.trace.specs.ShortLines.{IsShort, is_shown}
use Rattle.trace.specs.TraceText.{entry_text, header, records_text, sums_text, totals_text}
use Rattle.trace.specs.declared.fault.TraceFault.TheVariants.{Line}
use Rattle.trace.specs.declared.laws.TheConstants.{LONGEST_LINE}
use Rattle.trace.proofs.Cuts.{IsOneLine, first_of}
use Rattle.trace.proofs.Printing.{append_three, no_records, records_push}
use Rattle.trace.proofs.SoFar.{begin, not_a_line, not_ended}
use Rattle.carried_lines.specs.InOrder.{AreInOrder}
use Rattle.whole_trace.specs.Continued.{HasNoCarried}
use Rattle.whole_trace.specs.WholeText.{AreOrdered}
use Rattle.whole_trace.proofs.Lines.{no_feed, none_read}
use Rattle.replay.specs.declared.fault.ReplayFault.{ReplayFault}
use Rattle.replay.specs.declared.fault.ReplayFault.TheVariants.{Header, Carried, Behind}
use Rattle.host_recovery.specs.Sources.{IsAll}
use Rattle.host_recovery.specs.Carries.{IsFirstFault}
use Rattle.host_recovery.specs.Recovering.{Answers, AreSums, IsUnfollowed}
use Rattle.host_recovery.specs.Reads.{Counts, IsDone, IsNoCarried, Leads, ReadingState, StandsAt, TookRecord, TookEnd}
use Rattle.host_recovery.specs.Segments.{IsItsOwn, IsSegment, MayBeLeft, head_text}
use Rattle.host_recovery.specs.SetupFor.{IsSetupFor, carried_count}
use Rattle.host_recovery.specs.declared.fault.RecoveryFault.{RecoveryFault}
use Rattle.host_recovery.specs.declared.fault.RecoveryFault.TheVariants.{Form, Unfollowed}
use Rattle.host_recovery.specs.declared.recovering.Recovered.{Recovered}
use Rattle.host_recovery.proofs.Breaking.{AtFirst, broken_here}
use Rattle.host_recovery.proofs.Cutting.{all_of, feed_is_not_short, front_nothing, long_has_no_line, long_is_not_short, none_left, one_line_has_none, rest_of}
use Rattle.host_recovery.proofs.ShortCarried.{long_is_no_carried}

abbrev pub broken_at : ℕ → Result Recovered (OrMemory RecoveryFault)
broken_at number = Err (Fault (Form (Line number)))

module _ (config : Setup) (from now : Option (List ℕ)) (sums : Option Totals) (ahead : List ℕ) (reading : ReadingState) (stands : StandsAt config from now sums ahead reading) where
  -- more was read
  pub given_more : (after : Option (List ℕ)) (given beyond : List ℕ) → Consumes now after given → ahead ++ given ≡ beyond → StandsAt config from after sums beyond reading
  given_more after given beyond more is = record {
    lawful = stands.lawful;
    carried = stands.carried;
    records = stands.records;
    read = stands.read;
    is = stands.is;
    ordered = stands.ordered;
    own = stands.own;
    own_sums = stands.own_sums;
    consumed = subst (Consumes from after) (append_assoc stands.read ahead given ∙ ap (λ (t : List ℕ). stands.read ++ t) is) (Consumes-trans from now after (stands.read ++ ahead) given stands.consumed more);
    counts = stands.counts;
    whole = stands.whole;
    leads = stands.leads;
  }

  abbrev left : List ℕ
  left = ahead ++ rest_of now

  -- what is read and what is left are all
  all : IsAll from (stands.read ++ left)
  all = subst (IsAll from) (append_assoc stands.read ahead (rest_of now)) (all_of from now (stands.read ++ ahead) stands.consumed)

  -- what is ahead is no line, and none that was cut off
  pub breaks : (number : ℕ) → number ≡ carried_count stands.carried + front_lines stands.records sums + 2 → (AtFirst stands.carried stands.records sums → HasNoCarried reading.version left) → MayNotFollow reading.version sums left → (MayBeLeft sums left → ⊥)
      → Answers config from (broken_at number)
  breaks number place first faulty cut = (
    stands.read ++ left,
    all,
    broken_here reading.version stands.carried stands.records sums left stands.read number stands.is stands.ordered place first faulty cut,
  )

  -- there is more than can be read
  pub too_much : (most : ℕ) → most ≤ reading.whole → (text : List ℕ) × IsAll from text × (most ≤ length text)
  too_much most less = (stands.read ++ left, all, omega (arith, less, stands.whole, length-append stands.read left))

  -- it ends here
  abbrev all_here : IsAtEnd now → left ≡ ahead
  all_here at_end = ap (λ (t : List ℕ). ahead ++ t) (none_left now at_end) ∙ append-nil ahead

  whole_is : IsAtEnd now → option_append (head_text reading.version stands.carried) (option_append (front_text reading.version stands.records sums) (Some ahead)) ≡ Some (stands.read ++ ahead)
  whole_is at_end =
      sym (append_three (head_text reading.version stands.carried) (front_text reading.version stands.records sums) (Some ahead))
      ∙ ap (λ (t : Option (List ℕ)). option_append t (Some ahead)) stands.is

  all_is : IsAtEnd now → IsAll from (stands.read ++ ahead)
  all_is at_end = subst (λ (t : List ℕ). IsAll from (stands.read ++ t)) (all_here at_end) all

  abbrev segment : IsAtEnd now → MayBeLeft sums ahead → IsSegment reading.version stands.carried (stands.read ++ ahead) stands.records sums ahead
  segment at_end may = record { whole = whole_is at_end; ordered = stands.ordered; left = may; own = stands.own; own_sums = stands.own_sums }

  -- a line did not follow
  unfollowed : IsAtEnd now → MayBeLeft sums ahead → (fault : Option ReplayFault) (its : ReplayFault) → fault ≡ Some its → Leads config reading.version stands.carried stands.records sums fault reading.engine → Answers config from (Err (Fault (Unfollowed its)))
  unfollowed at_end may None its is leads = absurd (let bad : None ≡ Some its = is in cc)
  unfollowed at_end may (Some fault) its is leads =
      let same : fault ≡ its = cc in (
        stands.read ++ ahead,
        all_is at_end,
        (
          reading.version,
          stands.carried,
          stands.records,
          sums,
          ahead,
          segment at_end may,
          subst (λ (f : ReplayFault). IsUnfollowed config reading.version stands.carried stands.records sums f) same leads,
        ),
      )

  -- all lines follow
  recovered : IsAtEnd now → MayBeLeft sums ahead → (fault : Option ReplayFault) → fault ≡ None → Leads config reading.version stands.carried stands.records sums fault reading.engine
      → (its : Recovered) → its.engine ≡ reading.engine → its.carried ≡ reading.carried → its.records ≡ reading.count → its.whole ≡ reading.whole → its.is_ended ≡ is_some sums → Answers config from (Ok its)
  recovered at_end may (Some fault) is leads its engine lines count whole ended = absurd (let bad : Some fault ≡ None = is in cc)
  recovered at_end may None is leads its engine lines count whole ended = (
    stands.read ++ ahead,
    all_is at_end,
    record {
      carried = stands.carried;
      records = stands.records;
      sums = sums;
      torn = ahead;
      segment = subst (λ (v : Version). IsSegment v stands.carried (stands.read ++ ahead) stands.records sums ahead) leads.version_is (segment at_end may);
      lawful = stands.lawful;
      setup_is = subst (λ (e : NumberedState). IsSetupFor config stands.carried e.setup) (sym engine) leads.setup_is;
      behind = subst (λ (e : NumberedState). IsBehind stands.records e) (sym engine) leads.behind;
      are_sums = subst (λ (e : NumberedState). AreSums sums (length stands.records) e) (sym engine) leads.sums_are;
      lines = lines ∙ stands.counts.0;
      count = count ∙ stands.counts.1;
      whole = omega (arith, whole, stands.whole, length-append stands.read ahead);
      ended = ended;
    },
  )

-- ---- a line that is none

some_lines : (lines : List CarriedLine) → AreInOrder lines → 0 < length lines
some_lines lines in_order = omega (arith, ap length in_order.whole)

-- the first line after carried lines is none of them
first_is_none : (reading : ReadingState) (line text rest : List ℕ) (carried : Option (List CarriedLine)) (records : List Record) → IsNoCarried reading line → Counts reading carried records → AreOrdered carried → text ≡ line ++ 10 ∷ rest → IsOneLine line
    → AtFirst carried records None → HasNoCarried reading.version text
first_is_none reading line text rest None records other counts ordered is one at = absurd at
first_is_none reading line text rest (Some lines) (entry ∷ records) other counts ordered is one at = absurd at
first_is_none reading line text rest (Some lines) [] other counts ordered is one at =
    none_read reading.version text line rest (first_of text line rest one is) (other (omega (arith, counts.0, some_lines lines ordered)) counts.1)

module _ (config : Setup) (from now : Option (List ℕ)) (reading : ReadingState) where
  abbrev Stands : Option Totals → List ℕ → Type 0
  Stands sums ahead = StandsAt config from now sums ahead reading

  -- the number of the next line
  abbrev pub next_line : ℕ
  next_line = reading.carried + reading.count + 2

  next_is : (ahead : List ℕ) (stands : Stands None ahead) → next_line ≡ carried_count stands.carried + length stands.records + 2
  next_is ahead stands = omega (arith, stands.counts.0, stands.counts.1)

  pub breaks_at_line : (line rest : List ℕ) → Stands None (line ++ 10 ∷ rest) → IsOneLine line → IsNoCarried reading line → Reads (entry_text reading.version) line None → Reads sums_text line None → Answers config from (broken_at next_line)
  breaks_at_line line rest stands one other no_record no_end =
      let tail = rest ++ rest_of now in
      let is : (line ++ 10 ∷ rest) ++ rest_of now ≡ line ++ 10 ∷ tail = append_assoc line (10 ∷ rest) (rest_of now) in
      let none = not_a_line reading.version (line ++ 10 ∷ tail) [] (line ++ 10 ∷ tail) (begin reading.version (line ++ 10 ∷ tail)) line tail (first_of (line ++ 10 ∷ tail) line tail one refl) no_record no_end in
      breaks config from now None (line ++ 10 ∷ rest) reading stands next_line (next_is (line ++ 10 ∷ rest) stands)
      (first_is_none reading line ((line ++ 10 ∷ rest) ++ rest_of now) tail stands.carried stands.records other stands.counts stands.ordered is one)
      (subst (HasNoLine reading.version) (sym is) none)
      (λ short. feed_is_not_short line tail (subst IsShort is short))

  pub breaks_when_long : (ahead line rest : List ℕ) → Stands None ahead → ahead ≡ line ++ rest → IsOneLine line → LONGEST_LINE < length line → Answers config from (broken_at next_line)
  breaks_when_long ahead line rest stands whole one long =
      let is : ahead ++ rest_of now ≡ line ++ (rest ++ rest_of now) = ap (λ (t : List ℕ). t ++ rest_of now) whole ∙ append_assoc line rest (rest_of now) in
      breaks config from now None ahead reading stands next_line (next_is ahead stands)
      (λ at. subst (HasNoCarried reading.version) (sym is) (long_is_no_carried reading.version line (rest ++ rest_of now) one long))
      (subst (HasNoLine reading.version) (sym is) (long_has_no_line reading.version line (rest ++ rest_of now) one long))
      (λ short. long_is_not_short line (rest ++ rest_of now) long (subst IsShort is short))

  pub breaks_when_torn : (torn : List ℕ) → Stands None torn → IsAtEnd now → IsOneLine torn → list_all is_shown torn ≡ false → Answers config from (broken_at next_line)
  breaks_when_torn torn stands at_end one differs =
      let is : torn ++ rest_of now ≡ torn = ap (λ (t : List ℕ). torn ++ t) (none_left now at_end) ∙ append-nil torn in
      breaks config from now None torn reading stands next_line (next_is torn stands)
      (λ at. subst (HasNoCarried reading.version) (sym is) (no_feed reading.version torn (one_line_has_none torn one)))
      (subst (HasNoLine reading.version) (sym is) (not_ended reading.version torn [] torn (begin reading.version torn) (one_line_has_none torn one)))
      (λ short. let bad : false ≡ true = sym differs ∙ (subst IsShort is short).shown in absurd cc)

  none_first : (carried : Option (List CarriedLine)) (records : List Record) (totals : Totals) (text : List ℕ) → AtFirst carried records (Some totals) → HasNoCarried reading.version text
  none_first None records totals text at = absurd at
  none_first (Some lines) [] totals text at = absurd at
  none_first (Some lines) (entry ∷ records) totals text at = absurd at

  -- something stands after the last line
  pub breaks_behind_end : (totals : Totals) (ahead : List ℕ) → Stands (Some totals) ahead → (ahead ≡ [] → ⊥) → Answers config from (broken_at (reading.carried + reading.count + 1 + 2))
  breaks_behind_end totals ahead stands some =
      let more = λ (is : ahead ++ rest_of now ≡ []). some (front_nothing ahead (rest_of now) is) in
      breaks config from now (Some totals) ahead reading stands (reading.carried + reading.count + 1 + 2) (omega (arith, stands.counts.0, stands.counts.1))
      (none_first stands.carried stands.records totals (ahead ++ rest_of now)) more more

  -- ---- the end

  pub done_torn : (torn : List ℕ) → Stands None torn → IsAtEnd now → IsShort torn → IsDone config from false reading
  done_torn torn stands at_end short = record { now = now; at_end = at_end; sums = None; torn = torn; stands = stands; left = short; ended_so = refl }

  pub done_ended : (totals : Totals) (torn : List ℕ) → Stands (Some totals) torn → IsAtEnd now → torn ≡ [] → IsDone config from true reading
  done_ended totals torn stands at_end none = record { now = now; at_end = at_end; sums = Some totals; torn = torn; stands = stands; left = none; ended_so = refl }

pub finish_fault : (config : Setup) (from : Option (List ℕ)) (ended : Bool) (reading : ReadingState) (fault : ReplayFault) → reading.fault ≡ Some fault → IsDone config from ended reading → Answers config from (Err (Fault (Unfollowed fault)))
finish_fault config from ended reading fault is done = unfollowed config from done.now done.sums done.torn reading done.stands done.at_end done.left reading.fault fault is done.stands.leads

pub finish_engine : (config : Setup) (from : Option (List ℕ)) (ended : Bool) (reading : ReadingState) (its : Recovered) → reading.fault ≡ None → IsDone config from ended reading
    → its.engine ≡ reading.engine → its.carried ≡ reading.carried → its.records ≡ reading.count → its.whole ≡ reading.whole → its.is_ended ≡ ended → Answers config from (Ok its)
finish_engine config from ended reading its is done engine lines count whole so =
    recovered config from done.now done.sums done.torn reading done.stands done.at_end done.left reading.fault is done.stands.leads its engine lines count whole (so ∙ done.ended_so)

-- ---- a line that was taken

taken_line : (head told line : Option (List ℕ)) (read one : List ℕ) → option_append head told ≡ Some read → line ≡ Some one → option_append head (option_append told (with_newline line)) ≡ Some (read ++ (one ++ 10 ∷ []))
taken_line head told line read one e is =
    sym (append_three head told (with_newline line))
    ∙ ap (λ (t : Option (List ℕ)). option_append t (with_newline line)) e
    ∙ ap (λ (t : Option (List ℕ)). option_append (Some read) (with_newline t)) is

pub moved : (from now : Option (List ℕ)) (read line ahead : List ℕ) → Consumes from now (read ++ (line ++ 10 ∷ ahead)) → Consumes from now ((read ++ (line ++ 10 ∷ [])) ++ ahead)
moved from now read line ahead = subst (Consumes from now)
    (ap (λ (t : List ℕ). read ++ t) (sym (append_assoc line (10 ∷ []) ahead)) ∙ sym (append_assoc read (line ++ 10 ∷ []) ahead))

pub longer : (read line : List ℕ) (old new : ℕ) → old ≡ length read → new ≡ old + (length line + 1) → new ≡ length (read ++ (line ++ 10 ∷ []))
longer read line old new is more = omega (arith, is, more, length-append read (line ++ 10 ∷ []), length-append line (10 ∷ []))

own_push : (version : Version) (records : List Record) (entry : Record) → AllByRecursion (IsItsOwn (entry_text version)) records → IsItsOwn (entry_text version) entry → AllByRecursion (IsItsOwn (entry_text version)) (records ++ entry ∷ [])
own_push version [] entry own one = (one, tt)
own_push version (first ∷ rest) entry own one = (own.0, own_push version rest entry own.1 one)

-- what a line is read as has that line alone
pub own_of : {T : Type 0} (text_of : T → Option (List ℕ)) (line : List ℕ) (value : T) → Reads text_of line (Some value) → IsItsOwn text_of value
own_of text_of line value reads other same =
    let there : Some value ≡ Some other = reads.back other (same ∙ reads.said) in
    cc

pub took_record : (config : Setup) (from now : Option (List ℕ)) (line ahead : List ℕ) (old new : ReadingState) → StandsAt config from now None (line ++ 10 ∷ ahead) old → TookRecord old line new → StandsAt config from now None ahead new
took_record config from now line ahead old new stands took = record {
  lawful = stands.lawful;
  carried = stands.carried;
  records = stands.records ++ took.entry ∷ [];
  read = stands.read ++ (line ++ 10 ∷ []);
  is = subst (λ (v : Version). option_append (head_text v stands.carried) (records_text v (stands.records ++ took.entry ∷ [])) ≡ Some (stands.read ++ (line ++ 10 ∷ []))) (sym took.version)
      (ap (option_append (head_text old.version stands.carried)) (records_push old.version stands.records took.entry)
      ∙ taken_line (head_text old.version stands.carried) (records_text old.version stands.records) (entry_text old.version took.entry) stands.read line stands.is took.is);
  ordered = stands.ordered;
  own = subst (λ (v : Version). AllByRecursion (IsItsOwn (entry_text v)) (stands.records ++ took.entry ∷ [])) (sym took.version) (own_push old.version stands.records took.entry stands.own took.own);
  own_sums = tt;
  consumed = moved from now stands.read line ahead stands.consumed;
  counts = (took.carried ∙ stands.counts.0, omega (arith, took.count, stands.counts.1, length-append stands.records (took.entry ∷ [])));
  whole = longer stands.read line old.whole new.whole stands.whole took.whole;
  leads = subst (λ (v : Version). Leads config v stands.carried (stands.records ++ took.entry ∷ []) None new.fault new.engine) (sym took.version) (took.follows config stands.carried stands.records stands.counts stands.leads);
}

pub took_end : (config : Setup) (from now : Option (List ℕ)) (line ahead : List ℕ) (old new : ReadingState) → StandsAt config from now None (line ++ 10 ∷ ahead) old → (took : TookEnd old line new) → StandsAt config from now (Some took.totals) ahead new
took_end config from now line ahead old new stands took = record {
  lawful = stands.lawful;
  carried = stands.carried;
  records = stands.records;
  read = stands.read ++ (line ++ 10 ∷ []);
  is = subst (λ (v : Version). option_append (head_text v stands.carried) (option_append (records_text v stands.records) (totals_text took.totals)) ≡ Some (stands.read ++ (line ++ 10 ∷ []))) (sym took.version)
      (taken_line (head_text old.version stands.carried) (records_text old.version stands.records) (sums_text took.totals) stands.read line stands.is took.is);
  ordered = stands.ordered;
  own = subst (λ (v : Version). AllByRecursion (IsItsOwn (entry_text v)) stands.records) (sym took.version) stands.own;
  own_sums = took.own;
  consumed = moved from now stands.read line ahead stands.consumed;
  counts = (took.carried ∙ stands.counts.0, took.count ∙ stands.counts.1);
  whole = longer stands.read line old.whole new.whole stands.whole took.whole;
  leads = subst (λ (v : Version). Leads config v stands.carried stands.records (Some took.totals) new.fault new.engine) (sym took.version) (took.follows config stands.carried stands.records stands.counts stands.leads);
}

-- ---- the first line was read, of an engine that took over nothing

first_leads : (config : Setup) (version its : Version) (fault : Option ReplayFault) (engine : NumberedState) → Begins config → IsFirstFault version its fault → its ≡ version_of config → engine ≡ opened_numbered config → Leads config version None [] None fault engine
first_leads config version its None engine begins is same opened = record {
  version_is = is ∙ same;
  setup_is = ap (λ (e : NumberedState). e.setup) opened;
  behind = subst (IsBehind []) (sym opened) (behind_begun config begins);
  sums_are = tt;
}
first_leads config version its (Some Header) engine begins is same opened = λ e. is (e ∙ sym same)
first_leads config version its (Some (Carried count)) engine begins is same opened = absurd is
first_leads config version its (Some (Behind carried count)) engine begins is same opened = absurd is

pub stands_first : (config : Setup) (from now : Option (List ℕ)) (its : Version) (ahead : List ℕ) (reading : ReadingState) → IsLawful config → Begins config → Consumes from now (header reading.version ++ ahead)
    → IsFirstFault reading.version its reading.fault → its ≡ version_of config → reading.engine ≡ opened_numbered config → reading.carried ≡ 0 → reading.count ≡ 0 → reading.whole ≡ length (header reading.version)
    → StandsAt config from now None ahead reading
stands_first config from now its ahead reading lawful begins consumed fault same opened no_lines none whole = record {
  lawful = lawful;
  carried = None;
  records = [];
  read = header reading.version;
  is = ap (option_append (Some (header reading.version))) (no_records reading.version) ∙ ap Some (append-nil (header reading.version));
  ordered = tt;
  own = tt;
  own_sums = tt;
  consumed = consumed;
  counts = (no_lines, none);
  whole = whole;
  leads = first_leads config reading.version its reading.fault reading.engine begins fault same opened;
}

pub stands_opened : (config : Setup) (from now : Option (List ℕ)) (version its : Version) (ahead : List ℕ) (reading : ReadingState) → IsLawful config → Begins config → Consumes from now (header version ++ ahead)
    → reading.engine ≡ opened_numbered config → reading.version ≡ version → reading.carried ≡ 0 → reading.count ≡ 0 → reading.whole ≡ length (header version) → (fault : Option ReplayFault) → IsFirstFault version its fault → reading.fault ≡ fault
    → its ≡ version_of config → StandsAt config from now None ahead reading
stands_opened config from now version its ahead reading lawful begins consumed opened is no_lines none whole fault first fault_is same =
    stands_first config from now its ahead reading lawful begins (subst (λ (v : Version). Consumes from now (header v ++ ahead)) (sym is) consumed)
    (subst (λ (v : Version). IsFirstFault v its reading.fault) (sym is) (subst (IsFirstFault version its) (sym fault_is) first))
    same opened no_lines none (whole ∙ ap (λ (v : Version). length (header v)) (sym is))
