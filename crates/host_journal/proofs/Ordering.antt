-- Each step keeps the order: what goes out is covered by what was appended before.
use Rattle.std.proofs.Common.{◌≡◌, ◌∙◌, ℕ, Bool, true, false, Option, Some, None, List, [], ◌∷◌, ◌++◌, take, drop, refl, sym, ap, subst, append_assoc, append-nil, ◌+◌, length, length-append, arith, Result, Ok, Err}
use Rattle.std.specs.List.{list_all}
use Rattle.std.proofs.lemmas.List.{take-append-drop}
use Rattle.std.proofs.lemmas.List.Folds.{list_all-append}
use Rattle.host_live.specs.Answering.{Answer, Answers, IsLong}
use Rattle.host_live.specs.declared.reports.LineFault.{LineFault}
use Rattle.host_journal.specs.Disks.{AllDone, Step, Kept, Synced, Out, is_done, with_step, CutTo, Failed, FolderMade, Locked, ManifestMade, NotOut, Opened, Refused, SegmentMade, kept_by, kept_so_far}
use Rattle.host_live.specs.LinesCome.{EndsALine}
use Rattle.host_journal.specs.Order.{Told, nothing, bytes, answer, IsCovered, IsLoss, Ordered, begins, keeps, loses, syncs, tells, At, answer_text, sure}
use Rattle.host_journal.specs.Journals.{AllWaits, IsAnsweredBy, IsAnswered, length_of, stood_behind}
use Rattle.host_journal.proofs.Numbers.{both_so}
use Rattle.host_journal.proofs.Quiet.{WentOn}
use Rattle.host_journal.proofs.Steps.{kept_both}

-- ---- steps that are known

pub at_first : (is_synced : Bool) (first : List ℕ) (before : Option (List Step)) → At is_synced first before before [] [] [] false
at_first is_synced first None = refl
at_first is_synced first (Some steps) = (steps, refl, begins)

pub at_same : (is_synced : Bool) (first : List ℕ) (before old new : Option (List Step)) (kept synced out : List ℕ) (is_lost : Bool) → At is_synced first before old kept synced out is_lost → new ≡ old → At is_synced first before new kept synced out is_lost
at_same is_synced first before old new kept synced out is_lost at same = subst (λ (o : Option (List Step)). At is_synced first before o kept synced out is_lost) (sym same) at

-- the same, of what was lost
pub at_so : (is_synced : Bool) (first : List ℕ) (before now : Option (List Step)) (kept synced out : List ℕ) (is_lost its : Bool) → At is_synced first before now kept synced out is_lost → is_lost ≡ its → At is_synced first before now kept synced out its
at_so is_synced first before now kept synced out is_lost its at same = subst (λ (b : Bool). At is_synced first before now kept synced out b) same at

pub at_keeps : (is_synced : Bool) (first : List ℕ) (before old new : Option (List Step)) (kept synced out more : List ℕ) → At is_synced first before old kept synced out false → new ≡ with_step old (Kept more)
    → At is_synced first before new (kept ++ more) synced out false
at_keeps is_synced first None old new kept synced out more at is = is ∙ ap (λ (o : Option (List Step)). with_step o (Kept more)) at
at_keeps is_synced first (Some before) old new kept synced out more at is =
    (at.0 ++ Kept more ∷ [], is ∙ ap (λ (o : Option (List Step)). with_step o (Kept more)) at.1, keeps at.0 kept synced out more at.2)

pub at_syncs : (is_synced : Bool) (first : List ℕ) (before old new : Option (List Step)) (kept synced out : List ℕ) → At is_synced first before old kept synced out false → new ≡ with_step old Synced
    → At is_synced first before new kept kept out false
at_syncs is_synced first None old new kept synced out at is = is ∙ ap (λ (o : Option (List Step)). with_step o Synced) at
at_syncs is_synced first (Some before) old new kept synced out at is =
    (at.0 ++ Synced ∷ [], is ∙ ap (λ (o : Option (List Step)). with_step o Synced) at.1, syncs at.0 kept synced out at.2)

pub at_tells : (is_synced : Bool) (first : List ℕ) (before old new : Option (List Step)) (kept synced out more : List ℕ) → At is_synced first before old kept synced out false → IsCovered first (first ++ sure is_synced kept synced) (out ++ more)
    → new ≡ with_step old (Out more) → At is_synced first before new kept synced (out ++ more) false
at_tells is_synced first None old new kept synced out more at covered is = is ∙ ap (λ (o : Option (List Step)). with_step o (Out more)) at
at_tells is_synced first (Some before) old new kept synced out more at covered is =
    (at.0 ++ Out more ∷ [], is ∙ ap (λ (o : Option (List Step)). with_step o (Out more)) at.1, tells at.0 kept synced out more at.2 covered)

pub at_loses : (is_synced : Bool) (first : List ℕ) (before old new : Option (List Step)) (kept synced out : List ℕ) (step : Step) → At is_synced first before old kept synced out false → IsLoss step → new ≡ with_step old step
    → At is_synced first before new kept synced out true
at_loses is_synced first None old new kept synced out step at loss is = is ∙ ap (λ (o : Option (List Step)). with_step o step) at
at_loses is_synced first (Some before) old new kept synced out step at loss is =
    (at.0 ++ step ∷ [], is ∙ ap (λ (o : Option (List Step)). with_step o step) at.1, loses at.0 kept synced out step at.2 loss)

one_more : (before steps : List Step) (step : Step) → (more : List Step) × (steps ≡ before ++ more) → (more : List Step) × (steps ++ step ∷ [] ≡ before ++ more)
one_more before steps step went = (went.0 ++ step ∷ [], ap (λ (t : List Step). t ++ step ∷ []) went.1 ∙ append_assoc before went.0 (step ∷ []))

went_ordered : (is_synced : Bool) (first : List ℕ) (before steps : List Step) (kept synced out : List ℕ) (is_lost : Bool) → Ordered is_synced first before steps kept synced out is_lost → (more : List Step) × (steps ≡ before ++ more)
went_ordered is_synced first before steps kept synced out is_lost begins = ([], sym (append-nil before))
went_ordered is_synced first before steps kept synced out is_lost (keeps front k s o more its) = one_more before front (Kept more) (went_ordered is_synced first before front k s o false its)
went_ordered is_synced first before steps kept synced out is_lost (syncs front k s o its) = one_more before front Synced (went_ordered is_synced first before front k s o false its)
went_ordered is_synced first before steps kept synced out is_lost (tells front k s o more its covered) = one_more before front (Out more) (went_ordered is_synced first before front k s o false its)
went_ordered is_synced first before steps kept synced out is_lost (loses front k s o step its loss) = one_more before front step (went_ordered is_synced first before front k s o false its)

-- the steps went on from the first ones
pub went_at : (is_synced : Bool) (first : List ℕ) (before now : Option (List Step)) (kept synced out : List ℕ) (is_lost : Bool) → At is_synced first before now kept synced out is_lost → WentOn before now
went_at is_synced first None now kept synced out is_lost at = tt
went_at is_synced first (Some before) now kept synced out is_lost at =
    let went = went_ordered is_synced first before at.0 kept synced out is_lost at.2 in
    (went.0, at.1 ∙ ap Some went.1)

one_done : (before steps : List Step) (step : Step) → is_done step ≡ true → (more : List Step) × (steps ≡ before ++ more) × (list_all is_done more ≡ true) → (more : List Step) × (steps ++ step ∷ [] ≡ before ++ more) × (list_all is_done more ≡ true)
one_done before steps step done went = (
  went.0 ++ step ∷ [],
  ap (λ (t : List Step). t ++ step ∷ []) went.1 ∙ append_assoc before went.0 (step ∷ []),
  list_all-append is_done went.0 (step ∷ []) ∙ both_so (list_all is_done went.0) (list_all is_done (step ∷ [])) went.2 (both_so (is_done step) true done refl),
)

done_ordered : (is_synced : Bool) (first : List ℕ) (before steps : List Step) (kept synced out : List ℕ) (is_lost : Bool) → Ordered is_synced first before steps kept synced out is_lost → is_lost ≡ false
    → (more : List Step) × (steps ≡ before ++ more) × (list_all is_done more ≡ true)
done_ordered is_synced first before steps kept synced out is_lost begins unlost = ([], sym (append-nil before), refl)
done_ordered is_synced first before steps kept synced out is_lost (keeps front k s o more its) unlost = one_done before front (Kept more) refl (done_ordered is_synced first before front k s o false its refl)
done_ordered is_synced first before steps kept synced out is_lost (syncs front k s o its) unlost = one_done before front Synced refl (done_ordered is_synced first before front k s o false its refl)
done_ordered is_synced first before steps kept synced out is_lost (tells front k s o more its covered) unlost = one_done before front (Out more) refl (done_ordered is_synced first before front k s o false its refl)
done_ordered is_synced first before steps kept synced out is_lost (loses front k s o step its loss) unlost = absurd (let bad : true ≡ false = unlost in cc)

-- where nothing was lost no call failed
pub done_at : (is_synced : Bool) (first : List ℕ) (before now : Option (List Step)) (kept synced out : List ℕ) (is_lost : Bool) → At is_synced first before now kept synced out is_lost → is_lost ≡ false → AllDone before now
done_at is_synced first None now kept synced out is_lost at unlost = tt
done_at is_synced first (Some before) now kept synced out is_lost at unlost =
    let went = done_ordered is_synced first before at.0 kept synced out is_lost at.2 unlost in
    (went.0, at.1 ∙ ap Some went.1, went.2)

-- ---- what is covered

pub front_covered : (first trace out some rest : List ℕ) → IsCovered first trace (out ++ (some ++ rest)) → IsCovered first trace (out ++ some)
front_covered first trace out some rest covered = record {
  front = covered.front;
  rest = covered.rest;
  text = covered.text;
  more = rest ++ covered.more;
  answers = covered.answers;
  told = covered.told;
  traced = covered.traced;
  begun = covered.begun ∙ ap (λ (t : List ℕ). t ++ covered.more) (sym (append_assoc out some rest)) ∙ append_assoc (out ++ some) rest covered.more;
}

pub taken_covered : (first trace out text : List ℕ) (count : ℕ) → IsCovered first trace (out ++ text) → IsCovered first trace (out ++ take count text)
taken_covered first trace out text count covered =
    front_covered first trace out (take count text) (drop count text) (subst (λ (t : List ℕ). IsCovered first trace (out ++ t)) (sym (take-append-drop count text)) covered)

-- one write more of a text, of which so much is out
pub put_more : (is_synced : Bool) (first : List ℕ) (before old new : Option (List Step)) (kept synced out text done more next : List ℕ) (count : ℕ) → At is_synced first before old kept synced (out ++ done) false
    → IsCovered first (first ++ sure is_synced kept synced) (out ++ text) → next ≡ done ++ more → next ≡ take count text → new ≡ with_step old (Out more) → At is_synced first before new kept synced (out ++ next) false
put_more is_synced first before old new kept synced out text done more next count at covered joined is new_is =
    let same : (out ++ done) ++ more ≡ out ++ next = append_assoc out done more ∙ ap (λ (t : List ℕ). out ++ t) (sym joined) in
    let its : IsCovered first (first ++ sure is_synced kept synced) ((out ++ done) ++ more) =
    subst (λ (t : List ℕ). IsCovered first (first ++ sure is_synced kept synced) t) (sym (same ∙ ap (λ (t : List ℕ). out ++ t) is)) (taken_covered first (first ++ sure is_synced kept synced) out text count covered) in
    subst (λ (t : List ℕ). At is_synced first before new kept synced t false) same (at_tells is_synced first before old new kept synced (out ++ done) more at its new_is)

-- all that waits is covered once it is sure
pub waiting_covered : (is_synced : Bool) (first kept synced out pending : List ℕ) (answers : List Answer) (place : ℕ) (is_behind is_at_line : Bool) → AllWaits first kept synced out pending answers place is_behind is_at_line → (is_synced ≡ true → is_behind ≡ false)
    → IsCovered first (first ++ sure is_synced kept synced) (out ++ pending)
waiting_covered true first kept synced out pending answers place is_behind is_at_line all sure_so = record {
  front = first ++ kept;
  rest = [];
  text = out ++ pending;
  more = [];
  answers = answers;
  told = all.told;
  traced = ap (λ (t : List ℕ). first ++ t) (all.level (sure_so refl)) ∙ sym (append-nil (first ++ kept));
  begun = sym (append-nil (out ++ pending));
}
waiting_covered false first kept synced out pending answers place is_behind is_at_line all sure_so = record {
  front = first ++ kept;
  rest = [];
  text = out ++ pending;
  more = [];
  answers = answers;
  told = all.told;
  traced = sym (append-nil (first ++ kept));
  begun = sym (append-nil (out ++ pending));
}

-- ---- which answers are out

pub none_out : (answers : List Answer) (first trace : List ℕ) → IsAnsweredBy answers first trace []
none_out answers first trace = record {
  covered = record { front = []; rest = trace; text = []; more = []; answers = []; told = nothing; traced = refl; begun = refl };
  others = answers;
  are = refl;
}

pub answered_by_all : (first trace out rest : List ℕ) (answers : List Answer) → Told first trace (out ++ rest) answers → IsAnsweredBy answers first trace out
answered_by_all first trace out rest answers told = record {
  covered = record { front = trace; rest = []; text = out ++ rest; more = rest; answers = answers; told = told; traced = sym (append-nil trace); begun = refl };
  others = [];
  are = sym (append-nil answers);
}

pub answered_kept : (first kept more out : List ℕ) (answers : List Answer) → IsAnsweredBy answers first (first ++ kept) out → IsAnsweredBy answers first (first ++ (kept ++ more)) out
answered_kept first kept more out answers its =
    let covered = its.covered in
    record {
      covered = record {
        front = covered.front;
        rest = covered.rest ++ more;
        text = covered.text;
        more = covered.more;
        answers = covered.answers;
        told = covered.told;
        traced = sym (append_assoc first kept more) ∙ (ap (λ (t : List ℕ). t ++ more) covered.traced ∙ append_assoc covered.front covered.rest more);
        begun = covered.begun;
      };
      others = its.others;
      are = its.are;
    }

pub one_answer_more : (first trace out : List ℕ) (answers : List Answer) (one : Answer) → IsAnsweredBy answers first trace out → IsAnsweredBy (answers ++ one ∷ []) first trace out
one_answer_more first trace out answers one its = record {
  covered = its.covered;
  others = its.others ++ one ∷ [];
  are = ap (λ (a : List Answer). a ++ one ∷ []) its.are ∙ append_assoc its.covered.answers its.others (one ∷ []);
}

-- ---- what waits

pub told_more : (first kept out pending more : List ℕ) (answers : List Answer) → Told first (first ++ kept) (out ++ pending) answers → Told first (first ++ (kept ++ more)) (out ++ (pending ++ more)) answers
told_more first kept out pending more answers told =
    subst (λ (t : List ℕ). Told first t (out ++ (pending ++ more)) answers) (append_assoc first kept more)
    (subst (λ (t : List ℕ). Told first ((first ++ kept) ++ more) t answers) (append_assoc out pending more) (bytes (first ++ kept) (out ++ pending) more answers told))

pub told_answer : (first kept out pending : List ℕ) (answers : List Answer) (number : ℕ) (fault : Option LineFault) (behind : ℕ) → Told first (first ++ kept) (out ++ pending) answers → EndsALine (first ++ kept) → behind ≡ length kept
    → Told first (first ++ kept) (out ++ (pending ++ answer_text number fault)) (answers ++ record { line = number; fault = fault; behind = behind } ∷ [])
told_answer first kept out pending answers number fault behind told line is =
    subst (λ (t : List ℕ). Told first (first ++ kept) t (answers ++ record { line = number; fault = fault; behind = behind } ∷ [])) (append_assoc out pending (answer_text number fault))
    (answer (first ++ kept) (out ++ pending) answers number fault behind told line (length-append first kept ∙ ap (λ (n : ℕ). length first + n) (sym is)))

pub told_first : (first : List ℕ) → Told first (first ++ []) ([] ++ first) []
told_first first = subst (λ (t : List ℕ). Told first t first []) (sym (append-nil first)) (bytes [] [] first [] nothing)

-- ---- what was kept

loss_keeps : (steps : List Step) (step : Step) → IsLoss step → kept_by (steps ++ step ∷ []) ≡ kept_by steps
loss_keeps steps (Failed file fault) loss = kept_both steps (Failed file fault ∷ []) ∙ append-nil (kept_by steps)
loss_keeps steps NotOut loss = kept_both steps (NotOut ∷ []) ∙ append-nil (kept_by steps)
loss_keeps steps Locked loss = absurd loss
loss_keeps steps FolderMade loss = absurd loss
loss_keeps steps (ManifestMade number text) loss = absurd loss
loss_keeps steps (SegmentMade number text) loss = absurd loss
loss_keeps steps (Opened number) loss = absurd loss
loss_keeps steps (CutTo count) loss = absurd loss
loss_keeps steps (Kept more) loss = absurd loss
loss_keeps steps Synced loss = absurd loss
loss_keeps steps (Out more) loss = absurd loss
loss_keeps steps Refused loss = absurd loss

-- it is what the first steps kept, and what was appended since
ordered_kept : (is_synced : Bool) (first : List ℕ) (before steps : List Step) (kept synced out : List ℕ) (is_lost : Bool) → Ordered is_synced first before steps kept synced out is_lost → kept_by steps ≡ kept_by before ++ kept
ordered_kept is_synced first before steps kept synced out is_lost begins = sym (append-nil (kept_by before))
ordered_kept is_synced first before steps kept synced out is_lost (keeps front k s o more its) =
    kept_both front (Kept more ∷ []) ∙ (ap (λ (t : List ℕ). kept_by front ++ t) (append-nil more) ∙ (ap (λ (t : List ℕ). t ++ more) (ordered_kept is_synced first before front k s o false its) ∙ append_assoc (kept_by before) k more))
ordered_kept is_synced first before steps kept synced out is_lost (syncs front k s o its) = kept_both front (Synced ∷ []) ∙ (append-nil (kept_by front) ∙ ordered_kept is_synced first before front k s o false its)
ordered_kept is_synced first before steps kept synced out is_lost (tells front k s o more its covered) = kept_both front (Out more ∷ []) ∙ (append-nil (kept_by front) ∙ ordered_kept is_synced first before front k s o false its)
ordered_kept is_synced first before steps kept synced out is_lost (loses front k s o step its loss) = loss_keeps front step loss ∙ ordered_kept is_synced first before front k s o false its

-- so many bytes are kept, if that is known
pub kept_long : (is_synced : Bool) (first : List ℕ) (before now : Option (List Step)) (kept synced out : List ℕ) (place : ℕ) (is_lost : Bool) → At is_synced first before now kept synced out is_lost → place ≡ length kept → IsLong (kept_so_far now) (length_of (kept_so_far before) + place)
kept_long is_synced first None now kept synced out place is_lost at is = subst (λ (o : Option (List Step)). IsLong (kept_so_far o) (0 + place)) (sym at) tt
kept_long is_synced first (Some before) now kept synced out place is_lost at is =
    subst (λ (o : Option (List Step)). IsLong (kept_so_far o) (length (kept_by before) + place)) (sym at.1)
    (omega (arith, is, ap length (ordered_kept is_synced first before at.0 kept synced out is_lost at.2), length-append (kept_by before) kept))

-- ---- answers, with what was kept before

pub stood_more : (base : Option (List ℕ)) (answers : List Answer) (one : Answer) → stood_behind base (answers ++ one ∷ []) ≡ stood_behind base answers ++ record one { behind = length_of base + one.behind } ∷ []
stood_more base [] one = refl
stood_more base (its ∷ answers) one = ap (λ (t : List Answer). record its { behind = length_of base + its.behind } ∷ t) (stood_more base answers one)

pub answers_stood : {T E : Type 0} (base kept : Option (List ℕ)) (old : List Answer) (line : ℕ) (fault : Option LineFault) (result : Result T E) (new : List Answer) → IsAnswered base kept old line fault result new
    → Answers (Some (stood_behind base old)) line fault kept result (Some (stood_behind base new))
answers_stood base kept old line fault (Ok done) new it =
    (length_of base + it.0, it.2, ap Some (ap (stood_behind base) it.1 ∙ stood_more base old (record { line = line; fault = fault; behind = it.0 })))
answers_stood base kept old line fault (Err failed) new it = ap (λ (a : List Answer). Some (stood_behind base a)) it
