-- How far the carried lines of a segment were read, and what is said where they end.
use Rattle.std.proofs.Common.{◌≡◌, ◌+◌, ◌<◌, ◌≤◌, ℕ, Option, Some, None, Err, List, [], ◌∷◌, ◌++◌, length, length-append, ap, sym, subst, ◌∙◌, append_assoc, append-nil, arith}
use Rattle.std.specs.Fmt.{option_append, with_newline}
use Rattle.std.specs.Io.KnownBytes.{Consumes, IsAtEnd}
use Rattle.std.proofs.KnownBytes.{Consumes-trans}
use Rattle.base.specs.declared.or_memory.OrMemory.{OrMemory}
use Rattle.base.specs.declared.or_memory.OrMemory.TheVariants.{Fault}
use Rattle.world_calls.specs.declared.carried_line.CarriedLine.{CarriedLine}
use Rattle.world_calls.specs.declared.trace.Version.{Version}
use Rattle.world.specs.World.{Setup}
use Rattle.world.specs.Lawful.{IsLawful}
use Rattle.trace_lines.specs.Written.{Reads}
use Rattle.trace.specs.Reading.{HasNoLine}
use Rattle.trace.specs.ShortLines.{IsShort}
use Rattle.trace.specs.declared.fault.TraceFault.TheVariants.{Line}
use Rattle.trace.specs.declared.laws.TheConstants.{LONGEST_LINE}
use Rattle.trace.proofs.Cuts.{IsOneLine, first_of}
use Rattle.trace.proofs.Printing.{append_three, no_records}
use Rattle.trace.proofs.SoFar.{begin, not_ended}
use Rattle.carried_lines.specs.CarriedText.{carried_text}
use Rattle.carried_lines.specs.FirstLine.{continued_header}
use Rattle.carried_lines.specs.Following.{HasTaken}
use Rattle.carried_lines.specs.InOrder.{AreInOrder, IsFront}
use Rattle.whole_trace.specs.Continued.{BeginsWith, HasNoCarried, carried_texts}
use Rattle.whole_trace.proofs.Lines.{no_feed, no_other, none_read, same_line, texts_push}
use Rattle.host_recovery.specs.Sources.{IsAll}
use Rattle.host_recovery.specs.Carries.{BeginsReading, CarriedSays, CarriesAll, CarriesAt, CarryingState, LinesLead, TookLine, TookOther}
use Rattle.host_recovery.specs.Recovering.{Answers}
use Rattle.host_recovery.specs.Reads.{Leads, ReadingState, StandsAt}
use Rattle.host_recovery.specs.Segments.{head_text}
use Rattle.host_recovery.specs.declared.carrying.TookCarried.{TookCarried}
use Rattle.host_recovery.specs.declared.fault.RecoveryFault.{RecoveryFault}
use Rattle.host_recovery.specs.declared.fault.RecoveryFault.TheVariants.{Form}
use Rattle.host_recovery.proofs.Breaking.{broken_carried}
use Rattle.host_recovery.proofs.Cutting.{all_of, feed_is_not_short, long_has_no_line, long_is_not_short, none_left, one_line_has_none, rest_of}
use Rattle.host_recovery.proofs.ShortCarried.{long_is_no_carried}
use Rattle.host_recovery.proofs.Standing.{broken_at, longer, moved}

-- what a line was
pub took_carried_it : (old new : CarryingState) (told line : List ℕ) (found its : TookCarried) → found ≡ its → told ≡ line → CarriedSays old told found new → CarriedSays old line its new
took_carried_it old new told line found its same is says = subst (λ (t : TookCarried). CarriedSays old line t new) same (subst (λ (l : List ℕ). CarriedSays old l found new) is says)

-- ---- the first line of all was read

pub carries_first : (config : Setup) (from now : Option (List ℕ)) (version : Version) (ahead : List ℕ) (carrying : CarryingState) → IsLawful config → Consumes from now (continued_header version ++ ahead)
    → carrying.version ≡ version → carrying.count ≡ 0 → carrying.whole ≡ length (continued_header version) → HasTaken [] carrying.order → LinesLead config version [] carrying.fault carrying.beginning → CarriesAt config from now ahead carrying
unfolding carried_texts
carries_first config from now version ahead carrying lawful consumed is none whole ordered leads = record {
  lawful = lawful;
  lines = [];
  read = continued_header version;
  is = ap (λ (v : Version). head_text v (Some [])) is ∙ ap Some (append-nil (continued_header version));
  ordered = ordered;
  consumed = consumed;
  count = none;
  whole = whole;
  leads = subst (λ (v : Version). LinesLead config v [] carrying.fault carrying.beginning) (sym is) leads;
}

module _ (config : Setup) (from now : Option (List ℕ)) (ahead : List ℕ) (carrying : CarryingState) (carries : CarriesAt config from now ahead carrying) where
  -- more was read
  pub carries_more : (after : Option (List ℕ)) (given beyond : List ℕ) → Consumes now after given → ahead ++ given ≡ beyond → CarriesAt config from after beyond carrying
  carries_more after given beyond more is = record {
    lawful = carries.lawful;
    lines = carries.lines;
    read = carries.read;
    is = carries.is;
    ordered = carries.ordered;
    consumed = subst (Consumes from after) (append_assoc carries.read ahead given ∙ ap (λ (t : List ℕ). carries.read ++ t) is) (Consumes-trans from now after (carries.read ++ ahead) given carries.consumed more);
    count = carries.count;
    whole = carries.whole;
    leads = carries.leads;
  }

  abbrev left : List ℕ
  left = ahead ++ rest_of now

  all : IsAll from (carries.read ++ left)
  all = subst (IsAll from) (append_assoc carries.read ahead (rest_of now)) (all_of from now (carries.read ++ ahead) carries.consumed)

  pub carries_too_much : (most : ℕ) → most ≤ carrying.whole → (text : List ℕ) × IsAll from text × (most ≤ length text)
  carries_too_much most less = (carries.read ++ left, all, omega (arith, less, carries.whole, length-append carries.read left))

  -- what is ahead is no line that may come next, and none that was cut off
  carries_broken : ((line : CarriedLine) (more : List ℕ) → BeginsWith carrying.version line more left → IsFront (carries.lines ++ line ∷ []) → ⊥) → (AreInOrder carries.lines → HasNoLine carrying.version left) → (AreInOrder carries.lines → IsShort left → ⊥)
      → Answers config from (broken_at (carrying.count + 2))
  carries_broken next after cut = (
    carries.read ++ left,
    all,
    broken_carried carrying.version carries.lines left carries.read (carrying.count + 2) carries.is carries.ordered.front (ap (λ (n : ℕ). n + 2) carries.count) next after cut,
  )

module _ (config : Setup) (from now : Option (List ℕ)) (carrying : CarryingState) where
  abbrev Carries : List ℕ → Type 0
  Carries ahead = CarriesAt config from now ahead carrying

  begins_so : (line ahead text : List ℕ) (value : CarriedLine) → carried_text carrying.version value ≡ Some line → text ≡ line ++ 10 ∷ ahead → BeginsWith carrying.version value ahead text
  begins_so line ahead text value is whole = ap (λ (t : Option (List ℕ)). option_append (with_newline t) (Some ahead)) is ∙ ap Some (append_assoc line (10 ∷ []) ahead ∙ sym whole)

  -- a carried line is out of order
  pub breaks_in_order : (line rest : List ℕ) (after : CarryingState) → Carries (line ++ 10 ∷ rest) → TookOther carrying line after → Answers config from (broken_at (carrying.count + 2))
  breaks_in_order line rest after carries took =
      let tail = rest ++ rest_of now in
      let is : (line ++ 10 ∷ rest) ++ rest_of now ≡ line ++ 10 ∷ tail = append_assoc line (10 ∷ rest) (rest_of now) in
      let begins = begins_so line tail ((line ++ 10 ∷ rest) ++ rest_of now) took.value took.is is in
      carries_broken config from now (line ++ 10 ∷ rest) carrying carries
      (λ other more there front.
      let same = same_line carrying.version other took.value more tail ((line ++ 10 ∷ rest) ++ rest_of now) there begins in
      took.not_next carries.lines carries.ordered (subst (λ (l : CarriedLine). IsFront (carries.lines ++ l ∷ [])) same.line_is front))
      (λ whole. no_other carrying.version took.value tail ((line ++ 10 ∷ rest) ++ rest_of now) begins)
      (λ whole short. feed_is_not_short line tail (subst IsShort is short))

  -- another line comes before the carried lines that must be there
  pub breaks_too_early : (line rest : List ℕ) (carries : Carries (line ++ 10 ∷ rest)) → IsOneLine line → Reads (carried_text carrying.version) line None → (AreInOrder carries.lines → ⊥) → Answers config from (broken_at (carrying.count + 2))
  breaks_too_early line rest carries one none early =
      let tail = rest ++ rest_of now in
      let is : (line ++ 10 ∷ rest) ++ rest_of now ≡ line ++ 10 ∷ tail = append_assoc line (10 ∷ rest) (rest_of now) in
      carries_broken config from now (line ++ 10 ∷ rest) carrying carries
      (λ other more there front. none_read carrying.version ((line ++ 10 ∷ rest) ++ rest_of now) line tail (first_of ((line ++ 10 ∷ rest) ++ rest_of now) line tail one is) none other more there)
      (λ whole. absurd (early whole))
      (λ whole short. early whole)

  pub carries_long : (ahead line rest : List ℕ) → Carries ahead → ahead ≡ line ++ rest → IsOneLine line → LONGEST_LINE < length line → Answers config from (broken_at (carrying.count + 2))
  carries_long ahead line rest carries whole one long =
      let is : ahead ++ rest_of now ≡ line ++ (rest ++ rest_of now) = ap (λ (t : List ℕ). t ++ rest_of now) whole ∙ append_assoc line rest (rest_of now) in
      carries_broken config from now ahead carrying carries
      (λ other more there front. (subst (HasNoCarried carrying.version) (sym is) (long_is_no_carried carrying.version line (rest ++ rest_of now) one long)) other more there)
      (λ all. subst (HasNoLine carrying.version) (sym is) (long_has_no_line carrying.version line (rest ++ rest_of now) one long))
      (λ all short. long_is_not_short line (rest ++ rest_of now) long (subst IsShort is short))

  -- the text ends before the carried lines that must be there, or not as one that was cut off
  pub carries_torn : (torn : List ℕ) (carries : Carries torn) → IsAtEnd now → IsOneLine torn → (AreInOrder carries.lines → IsShort torn → ⊥) → Answers config from (broken_at (carrying.count + 2))
  carries_torn torn carries at_end one cut =
      let is : torn ++ rest_of now ≡ torn = ap (λ (t : List ℕ). torn ++ t) (none_left now at_end) ∙ append-nil torn in
      carries_broken config from now torn carrying carries
      (λ other more there front. (subst (HasNoCarried carrying.version) (sym is) (no_feed carrying.version torn (one_line_has_none torn one))) other more there)
      (λ all. subst (HasNoLine carrying.version) (sym is) (not_ended carrying.version torn [] torn (begin carrying.version torn) (one_line_has_none torn one)))
      (λ all short. cut all (subst IsShort is short))

-- a carried line, told with its number
pub tells_carried : (config : Setup) (from : Option (List ℕ)) (count counted : ℕ) (error : OrMemory RecoveryFault) → count ≡ counted → error ≡ Fault (Form (Line (count + 2))) → Answers config from (broken_at (counted + 2)) → Answers config from (Err error)
tells_carried config from count counted error same tells = subst (λ (e : OrMemory RecoveryFault). Answers config from (Err e)) (ap (λ (n : ℕ). Fault (Form (Line (n + 2)))) (sym same) ∙ sym tells)

-- ---- a carried line was taken

one_line_more : (version : Version) (lines : List CarriedLine) (value : CarriedLine) (read line : List ℕ) → head_text version (Some lines) ≡ Some read → carried_text version value ≡ Some line → head_text version (Some (lines ++ value ∷ [])) ≡ Some (read ++ (line ++ 10 ∷ []))
one_line_more version lines value read line e is =
    ap (option_append (Some (continued_header version))) (texts_push version lines value)
    ∙ sym (append_three (Some (continued_header version)) (carried_texts version lines) (with_newline (carried_text version value)))
    ∙ ap (λ (t : Option (List ℕ)). option_append t (with_newline (carried_text version value))) e
    ∙ ap (λ (t : Option (List ℕ)). option_append (Some read) (with_newline t)) is

pub took_line : (config : Setup) (from now : Option (List ℕ)) (line ahead : List ℕ) (old new : CarryingState) → CarriesAt config from now (line ++ 10 ∷ ahead) old → TookLine old line new → CarriesAt config from now ahead new
took_line config from now line ahead old new carries took = record {
  lawful = carries.lawful;
  lines = carries.lines ++ took.value ∷ [];
  read = carries.read ++ (line ++ 10 ∷ []);
  is = subst (λ (v : Version). head_text v (Some (carries.lines ++ took.value ∷ [])) ≡ Some (carries.read ++ (line ++ 10 ∷ []))) (sym took.version)
      (one_line_more old.version carries.lines took.value carries.read line carries.is took.is);
  ordered = took.ordered carries.lines carries.ordered;
  consumed = moved from now carries.read line ahead carries.consumed;
  count = omega (arith, took.count, carries.count, length-append carries.lines (took.value ∷ []));
  whole = longer carries.read line old.whole new.whole carries.whole took.whole;
  leads = subst (λ (v : Version). LinesLead config v (carries.lines ++ took.value ∷ []) new.fault new.beginning) (sym took.version) (took.goes_on config carries.lines carries.count carries.leads);
}

-- ---- they are all

pub stands_after : (config : Setup) (from now : Option (List ℕ)) (ahead : List ℕ) (carrying : CarryingState) (reading : ReadingState) → CarriesAll config from now ahead carrying → BeginsReading carrying reading
    → reading.version ≡ carrying.version → reading.carried ≡ carrying.count → reading.count ≡ 0 → reading.whole ≡ carrying.whole → StandsAt config from now None ahead reading
stands_after config from now ahead carrying reading all begins version_is lines none whole =
    let carries = all.at in
    record {
      lawful = carries.lawful;
      carried = Some carries.lines;
      records = [];
      read = carries.read;
      is = ap (option_append (head_text reading.version (Some carries.lines))) (no_records reading.version)
          ∙ subst (λ (v : Version). option_append (head_text v (Some carries.lines)) (Some []) ≡ Some carries.read) (sym version_is)
          (ap (λ (t : Option (List ℕ)). option_append t (Some [])) carries.is ∙ ap Some (append-nil carries.read));
      ordered = all.in_order;
      own = tt;
      own_sums = tt;
      consumed = carries.consumed;
      counts = (lines ∙ carries.count, none);
      whole = whole ∙ carries.whole;
      leads = subst (λ (v : Version). Leads config v (Some carries.lines) [] None reading.fault reading.engine) (sym version_is) (begins config carries.lines carries.count carries.leads);
    }
