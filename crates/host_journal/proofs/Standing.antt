-- What a sink holds after each of its steps.
use Rattle.std.proofs.Common.{◌≡◌, ◌∙◌, ◌+◌, ◌≤◌, ◌-◌, length-append, inr, ℕ, suc, Bool, true, false, Option, Some, None, is_some, IfNone, List, [], ◌∷◌, ◌++◌, length, take, get_or, refl, sym, ap, subst, append_assoc, append-nil, arith}
use Rattle.std.proofs.Math.Seq.{take-suc}
use Rattle.host_journal.specs.declared.lost.Lost.{Lost}
use Rattle.host_journal.specs.declared.lost.Lost.TheVariants as losses
use Rattle.host_live.specs.Answering.{Answer, IsLong}
use Rattle.host_live.specs.declared.reports.LineFault.{LineFault}
use Rattle.host_journal.specs.declared.disk.DiskFault.TheVariants.{Failed as NotDone}
use Rattle.host_journal.specs.declared.fault.JournalFile.TheVariants.{Segment}
use Rattle.host_journal.specs.Disks.{AllDone, EndsIn, Failed, IsFailed, IsNotOut, Kept, Step, Synced, with_step, kept_so_far}
use Rattle.host_live.specs.LinesCome.{EndsALine}
use Rattle.host_journal.specs.Order.{Told, At, IsCovered, IsLoss, answer_text, sure}
use Rattle.host_journal.specs.Journals.{AllWaits, HasLost, IsAnsweredBy, Stands, is_of_write, length_of}
use Rattle.host_journal.proofs.Ordering.{answered_by_all, answered_kept, at_keeps, at_loses, at_so, at_syncs, done_at, one_answer_more, told_answer, told_more, waiting_covered, went_at, kept_long}
use Rattle.host_journal.proofs.Quiet.{ends_on, ends_step}

pub none_of : (lost : Option Lost) → is_some lost ≡ false → lost ≡ None
none_of None e = refl
none_of (Some lost) e = let bad : true ≡ false = e in cc

-- a text that ends with a line feed
pub ends_line : (before text : List ℕ) (count : ℕ) → 1 ≤ count → count ≤ length text → get_or text (count - 1) 0 ≡ 10 → EndsALine (before ++ take count text)
ends_line before text count some few is =
    let same : count ≡ suc (count - 1) = omega arith in
    let lt : suc (count - 1) ≤ length text = omega arith in
    let cut : take count text ≡ take (count - 1) text ++ 10 ∷ [] =
    ap (λ (n : ℕ). take n text) same ∙ take-suc text (count - 1) 0 lt ∙ ap (λ (byte : ℕ). take (count - 1) text ++ byte ∷ []) is in
    inr (before ++ take (count - 1) text, ap (λ (t : List ℕ). before ++ t) cut ∙ sym (append_assoc before (take (count - 1) text) (10 ∷ [])))

-- ---- of what waits

waits_synced : (lost : Option Lost) (first kept synced out pending : List ℕ) (answers : List Answer) (place : ℕ) (is_behind is_at_line : Bool) → IfNone lost (AllWaits first kept synced out pending answers place is_behind is_at_line)
    → IfNone lost (AllWaits first kept kept out pending answers place false is_at_line)
waits_synced None first kept synced out pending answers place is_behind is_at_line all = record { told = all.told; appended = all.appended; level = λ _. refl; line = all.line }
waits_synced (Some lost) first kept synced out pending answers place is_behind is_at_line all = tt

waits_kept : (lost : Option Lost) (first kept synced out pending more : List ℕ) (answers : List Answer) (place later : ℕ) (is_behind is_at_line ends : Bool) → later ≡ place + length more → IfNone lost (AllWaits first kept synced out pending answers place is_behind is_at_line)
    → (ends ≡ true → EndsALine (first ++ (kept ++ more))) → IfNone lost (AllWaits first (kept ++ more) synced out (pending ++ more) answers later true ends)
waits_kept None first kept synced out pending more answers place later is_behind is_at_line ends moved all line =
    record { told = told_more first kept out pending more answers all.told; appended = omega (arith, moved, all.appended, length-append kept more); level = λ bad. absurd (let no : true ≡ false = bad in cc); line = line }
waits_kept (Some lost) first kept synced out pending more answers place later is_behind is_at_line ends moved all line = tt

waits_answer : (lost : Option Lost) (first kept synced out pending : List ℕ) (answers : List Answer) (place : ℕ) (is_behind is_at_line : Bool) (number : ℕ) (fault : Option LineFault) → is_at_line ≡ true
    → IfNone lost (AllWaits first kept synced out pending answers place is_behind is_at_line)
    → IfNone lost (AllWaits first kept synced out (pending ++ answer_text number fault) (answers ++ record { line = number; fault = fault; behind = place } ∷ []) place is_behind is_at_line)
waits_answer None first kept synced out pending answers place is_behind is_at_line number fault at_line all =
    record { told = told_answer first kept out pending answers number fault place all.told (all.line at_line) all.appended; appended = all.appended; level = all.level; line = all.line }
waits_answer (Some lost) first kept synced out pending answers place is_behind is_at_line number fault at_line all = tt

pub waits_of : (lost : Option Lost) (first kept synced out pending : List ℕ) (answers : List Answer) (place : ℕ) (is_behind is_at_line : Bool) → lost ≡ None → IfNone lost (AllWaits first kept synced out pending answers place is_behind is_at_line)
    → AllWaits first kept synced out pending answers place is_behind is_at_line
waits_of None first kept synced out pending answers place is_behind is_at_line unlost all = all
waits_of (Some lost) first kept synced out pending answers place is_behind is_at_line unlost all = absurd (let bad : Some lost ≡ None = unlost in cc)

-- ---- of the sink

-- the order, where nothing was lost
at_unlost : (is_synced : Bool) (first : List ℕ) (before now : Option (List Step)) (kept synced out : List ℕ) (lost : Option Lost) → lost ≡ None → At is_synced first before now kept synced out (is_of_write lost) → At is_synced first before now kept synced out false
at_unlost is_synced first before now kept synced out lost unlost at = at_so is_synced first before now kept synced out (is_of_write lost) false at (ap is_of_write unlost)

still_unlost : (is_synced : Bool) (first : List ℕ) (before now : Option (List Step)) (kept synced out : List ℕ) (lost : Option Lost) → lost ≡ None → At is_synced first before now kept synced out false → At is_synced first before now kept synced out (is_of_write lost)
still_unlost is_synced first before now kept synced out lost unlost at = at_so is_synced first before now kept synced out false (is_of_write lost) at (sym (ap is_of_write unlost))

-- what is not written is lost, though no write failed
pub stands_lost : (is_synced : Bool) (first : List ℕ) (before now : Option (List Step)) (pending others : List ℕ) (answers : List Answer) (place : ℕ) (lost : Option Lost) (why : Lost) (is_behind is_at_line behind line : Bool)
    → Stands is_synced first before now pending answers place lost is_behind is_at_line → lost ≡ None → is_of_write (Some why) ≡ false → Stands is_synced first before now others answers place (Some why) behind line
stands_lost is_synced first before now pending others answers place lost why is_behind is_at_line behind line stands unlost unwritten = record {
  kept = stands.kept;
  synced = stands.synced;
  out = stands.out;
  at = at_so is_synced first before now stands.kept stands.synced stands.out false (is_of_write (Some why)) (at_unlost is_synced first before now stands.kept stands.synced stands.out lost unlost stands.at) (sym unwritten);
  answered = stands.answered;
  whole = tt;
}

pub stands_synced : (is_synced : Bool) (first : List ℕ) (before old new : Option (List Step)) (pending : List ℕ) (answers : List Answer) (place : ℕ) (lost : Option Lost) (is_behind is_at_line : Bool)
    → Stands is_synced first before old pending answers place lost is_behind is_at_line → lost ≡ None → new ≡ with_step old Synced → Stands is_synced first before new pending answers place lost false is_at_line
stands_synced is_synced first before old new pending answers place lost is_behind is_at_line stands unlost is = record {
  kept = stands.kept;
  synced = stands.kept;
  out = stands.out;
  at = still_unlost is_synced first before new stands.kept stands.kept stands.out lost unlost
      (at_syncs is_synced first before old new stands.kept stands.synced stands.out (at_unlost is_synced first before old stands.kept stands.synced stands.out lost unlost stands.at) is);
  answered = stands.answered;
  whole = waits_synced lost first stands.kept stands.synced stands.out pending answers place is_behind is_at_line stands.whole;
}

pub stands_kept : (is_synced : Bool) (first : List ℕ) (before old new : Option (List Step)) (pending more : List ℕ) (answers : List Answer) (place later : ℕ) (lost : Option Lost) (is_behind is_at_line ends : Bool)
    → Stands is_synced first before old pending answers place lost is_behind is_at_line → lost ≡ None → new ≡ with_step old (Kept more) → later ≡ place + length more → (ends ≡ true → (text : List ℕ) → EndsALine (text ++ more))
    → Stands is_synced first before new (pending ++ more) answers later lost true ends
stands_kept is_synced first before old new pending more answers place later lost is_behind is_at_line ends stands unlost is moved line = record {
  kept = stands.kept ++ more;
  synced = stands.synced;
  out = stands.out;
  at = still_unlost is_synced first before new (stands.kept ++ more) stands.synced stands.out lost unlost
      (at_keeps is_synced first before old new stands.kept stands.synced stands.out more (at_unlost is_synced first before old stands.kept stands.synced stands.out lost unlost stands.at) is);
  answered = answered_kept first stands.kept more stands.out answers stands.answered;
  whole = waits_kept lost first stands.kept stands.synced stands.out pending more answers place later is_behind is_at_line ends moved stands.whole
      (λ e. subst (λ (t : List ℕ). EndsALine t) (append_assoc first stands.kept more) (line e (first ++ stands.kept)));
}

-- what was kept is lost for what waits, for want of memory
pub stands_kept_lost : (is_synced : Bool) (first : List ℕ) (before old new : Option (List Step)) (pending more others : List ℕ) (answers : List Answer) (place later : ℕ) (lost : Option Lost) (is_behind is_at_line behind line : Bool)
    → Stands is_synced first before old pending answers place lost is_behind is_at_line → lost ≡ None → new ≡ with_step old (Kept more) → Stands is_synced first before new others answers later (Some losses.OutOfMemory) behind line
stands_kept_lost is_synced first before old new pending more others answers place later lost is_behind is_at_line behind line stands unlost is = record {
  kept = stands.kept ++ more;
  synced = stands.synced;
  out = stands.out;
  at = at_keeps is_synced first before old new stands.kept stands.synced stands.out more (at_unlost is_synced first before old stands.kept stands.synced stands.out lost unlost stands.at) is;
  answered = answered_kept first stands.kept more stands.out answers stands.answered;
  whole = tt;
}

pub stands_answer : (is_synced : Bool) (first : List ℕ) (before now : Option (List Step)) (pending : List ℕ) (answers : List Answer) (place : ℕ) (lost : Option Lost) (is_behind is_at_line : Bool) (number : ℕ) (fault : Option LineFault)
    → is_at_line ≡ true → Stands is_synced first before now pending answers place lost is_behind is_at_line
    → Stands is_synced first before now (pending ++ answer_text number fault) (answers ++ record { line = number; fault = fault; behind = place } ∷ []) place lost is_behind is_at_line
stands_answer is_synced first before now pending answers place lost is_behind is_at_line number fault at_line stands = record {
  kept = stands.kept;
  synced = stands.synced;
  out = stands.out;
  at = stands.at;
  answered = one_answer_more first (first ++ stands.kept) stands.out answers (record { line = number; fault = fault; behind = place }) stands.answered;
  whole = waits_answer lost first stands.kept stands.synced stands.out pending answers place is_behind is_at_line number fault at_line stands.whole;
}

out_of : (is_synced : Bool) (first : List ℕ) (before old new : Option (List Step)) (pending : List ℕ) (answers : List Answer) (place : ℕ) (is_behind is_at_line : Bool)
    → Stands is_synced first before old pending answers place None is_behind is_at_line → (is_synced ≡ true → is_behind ≡ false)
    → ((kept synced out : List ℕ) → At is_synced first before old kept synced out false → IsCovered first (first ++ sure is_synced kept synced) (out ++ pending) → At is_synced first before new kept synced (out ++ pending) false)
    → Stands is_synced first before new [] answers place None is_behind is_at_line
out_of is_synced first before old new pending answers place is_behind is_at_line stands sure_so goes = record {
  kept = stands.kept;
  synced = stands.synced;
  out = stands.out ++ pending;
  at = goes stands.kept stands.synced stands.out stands.at (waiting_covered is_synced first stands.kept stands.synced stands.out pending answers place is_behind is_at_line stands.whole sure_so);
  answered = answered_by_all first (first ++ stands.kept) (stands.out ++ pending) [] answers (subst (λ (t : List ℕ). Told first (first ++ stands.kept) t answers) (sym (append-nil (stands.out ++ pending))) stands.whole.told);
  whole = record {
    told = subst (λ (t : List ℕ). Told first (first ++ stands.kept) t answers) (sym (append-nil (stands.out ++ pending))) stands.whole.told;
    appended = stands.whole.appended;
    level = stands.whole.level;
    line = stands.whole.line;
  };
}

-- All that waits went out.
pub stands_out : (is_synced : Bool) (first : List ℕ) (before old new : Option (List Step)) (pending text none : List ℕ) (answers : List Answer) (place : ℕ) (lost : Option Lost) (is_behind is_at_line : Bool)
    → Stands is_synced first before old pending answers place lost is_behind is_at_line → lost ≡ None → (is_synced ≡ true → is_behind ≡ false) → text ≡ pending → none ≡ []
    → ((is_synced : Bool) (first kept synced out : List ℕ) (before : Option (List Step)) → At is_synced first before old kept synced out false → IsCovered first (first ++ sure is_synced kept synced) (out ++ text) → At is_synced first before new kept synced (out ++ text) false)
    → Stands is_synced first before new none answers place lost is_behind is_at_line
stands_out is_synced first before old new pending text none answers place lost is_behind is_at_line stands unlost sure_so same empty goes =
    subst (λ (l : Option Lost). Stands is_synced first before new none answers place l is_behind is_at_line) (sym unlost)
    (subst (λ (t : List ℕ). Stands is_synced first before new t answers place None is_behind is_at_line) (sym empty)
    (out_of is_synced first before old new pending answers place is_behind is_at_line (subst (λ (l : Option Lost). Stands is_synced first before old pending answers place l is_behind is_at_line) unlost stands) sure_so
    (λ kept synced out at covered. subst (λ (t : List ℕ). At is_synced first before new kept synced (out ++ t) false) same
    (goes is_synced first kept synced out before at (subst (λ (t : List ℕ). IsCovered first (first ++ sure is_synced kept synced) (out ++ t)) (sym same) covered)))))

-- A front of it did.
pub stands_cut : (is_synced : Bool) (first : List ℕ) (before old new : Option (List Step)) (pending text others : List ℕ) (answers : List Answer) (place : ℕ) (lost : Option Lost) (is_behind is_at_line behind line : Bool)
    → Stands is_synced first before old pending answers place lost is_behind is_at_line → lost ≡ None → (is_synced ≡ true → is_behind ≡ false) → text ≡ pending
    → ((is_synced : Bool) (first kept synced out : List ℕ) (before : Option (List Step)) → At is_synced first before old kept synced out false → IsCovered first (first ++ sure is_synced kept synced) (out ++ text)
    → (some rest : List ℕ) × (text ≡ some ++ rest) × At is_synced first before new kept synced (out ++ some) true)
    → Stands is_synced first before new others answers place (Some losses.Output) behind line
stands_cut is_synced first before old new pending text others answers place lost is_behind is_at_line behind line stands unlost sure_so same goes =
    let all : AllWaits first stands.kept stands.synced stands.out pending answers place is_behind is_at_line = waits_of lost first stands.kept stands.synced stands.out pending answers place is_behind is_at_line unlost stands.whole in
    let its = goes is_synced first stands.kept stands.synced stands.out before (at_unlost is_synced first before old stands.kept stands.synced stands.out lost unlost stands.at)
    (subst (λ (t : List ℕ). IsCovered first (first ++ sure is_synced stands.kept stands.synced) (stands.out ++ t)) (sym same) (waiting_covered is_synced first stands.kept stands.synced stands.out pending answers place is_behind is_at_line all sure_so)) in
    record {
      kept = stands.kept;
      synced = stands.synced;
      out = stands.out ++ its.0;
      at = its.3;
      answered = answered_by_all first (first ++ stands.kept) (stands.out ++ its.0) its.1 answers
          (subst (λ (t : List ℕ). Told first (first ++ stands.kept) t answers) (ap (λ (t : List ℕ). stands.out ++ t) (sym same ∙ its.2) ∙ sym (append_assoc stands.out its.0 its.1)) all.told);
      whole = tt;
    }

-- ---- a write that failed

pub has_none : (segment : ℕ) (before now : Option (List Step)) (lost : Option Lost) → lost ≡ None → HasLost segment before now lost
has_none segment before now None unlost = tt
has_none segment before now (Some lost) unlost = absurd (let bad : Some lost ≡ None = unlost in cc)

-- The segment was not written.
pub stands_loses : (is_synced : Bool) (first : List ℕ) (before old new : Option (List Step)) (pending : List ℕ) (answers : List Answer) (place : ℕ) (lost : Option Lost) (is_behind is_at_line : Bool) (step : Step)
    → Stands is_synced first before old pending answers place lost is_behind is_at_line → lost ≡ None → IsLoss step → new ≡ with_step old step → Stands is_synced first before new pending answers place (Some losses.Segment) is_behind is_at_line
stands_loses is_synced first before old new pending answers place lost is_behind is_at_line step stands unlost loss is = record {
  kept = stands.kept;
  synced = stands.synced;
  out = stands.out;
  at = at_loses is_synced first before old new stands.kept stands.synced stands.out step (at_unlost is_synced first before old stands.kept stands.synced stands.out lost unlost stands.at) loss is;
  answered = stands.answered;
  whole = tt;
}

pub segment_lost : (is_synced : Bool) (first : List ℕ) (before old new : Option (List Step)) (pending : List ℕ) (answers : List Answer) (place : ℕ) (lost : Option Lost) (is_behind is_at_line : Bool) (others segment : ℕ)
    → Stands is_synced first before old pending answers place lost is_behind is_at_line → others ≡ segment → new ≡ with_step old (Failed (Segment others) NotDone) → EndsIn (IsFailed (Segment segment)) before new
segment_lost is_synced first before old new pending answers place lost is_behind is_at_line others segment stands same is =
    ends_on (IsFailed (Segment segment)) before old new (went_at is_synced first before old stands.kept stands.synced stands.out (is_of_write lost) stands.at)
    (ends_step (IsFailed (Segment segment)) old new (Failed (Segment others) NotDone) (ap Segment same) is)

pub output_lost : (is_synced : Bool) (first : List ℕ) (before old new : Option (List Step)) (pending : List ℕ) (answers : List Answer) (place : ℕ) (lost : Option Lost) (is_behind is_at_line : Bool)
    → Stands is_synced first before old pending answers place lost is_behind is_at_line → EndsIn IsNotOut old new → EndsIn IsNotOut before new
output_lost is_synced first before old new pending answers place lost is_behind is_at_line stands ends =
    ends_on IsNotOut before old new (went_at is_synced first before old stands.kept stands.synced stands.out (is_of_write lost) stands.at) ends

-- no write failed
pub stands_done : (is_synced : Bool) (first : List ℕ) (before now : Option (List Step)) (pending : List ℕ) (answers : List Answer) (place : ℕ) (lost : Option Lost) (is_behind is_at_line : Bool)
    → Stands is_synced first before now pending answers place lost is_behind is_at_line → is_of_write lost ≡ false → AllDone before now
stands_done is_synced first before now pending answers place lost is_behind is_at_line stands unwritten = done_at is_synced first before now stands.kept stands.synced stands.out (is_of_write lost) stands.at unwritten

-- ---- how much was kept

pub place_long : (is_synced : Bool) (first : List ℕ) (before now : Option (List Step)) (pending : List ℕ) (answers : List Answer) (place : ℕ) (lost : Option Lost) (is_behind is_at_line : Bool) → lost ≡ None → Stands is_synced first before now pending answers place lost is_behind is_at_line
    → IsLong (kept_so_far now) (length_of (kept_so_far before) + place)
place_long is_synced first before now pending answers place lost is_behind is_at_line unlost stands =
    let all = waits_of lost first stands.kept stands.synced stands.out pending answers place is_behind is_at_line unlost stands.whole in
    kept_long is_synced first before now stands.kept stands.synced stands.out place (is_of_write lost) stands.at all.appended
