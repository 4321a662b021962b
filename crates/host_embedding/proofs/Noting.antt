-- What a call that takes a run further did with the run's CCB: what is kept of it, and what is reported.
use Rattle.std.proofs.Common.{◌≡◌, ◌≢◌, ◌==◌, ◌+◌, ◌≤◌, ◌∙◌, ℕ, Bool, true, false, Option, Some, None, List, [], ◌∷◌, ◌++◌, append-nil, append_assoc, drop, length, length-append, inl, inr, refl, sym, ap, arith}
use Rattle.std.specs.Prelude.{IfSome, if◌then◌else◌}
use Rattle.std.proofs.Math.Seq.{drop-append_seam}
use Rattle.std.proofs.lemmas.Bool.{cases_Bool}
use Rattle.std.proofs.lemmas.Bool.Decides.{nat_tests}
use Rattle.world_calls.specs.declared.record.Record.{Record}
use Rattle.world_calls.specs.declared.record.Record.TheVariants.{Advance, Called}
use Rattle.world_calls.specs.declared.record.StoppedAt.{StoppedAt}
use Rattle.engine_core.specs.Driving.{WentOn, begins, goes_on}
use Rattle.engine_core.specs.EngineState.{EngineState, Records}
use Rattle.engine_core.specs.RunState.{RunState}
use Rattle.host_embedding.specs.Calls.{IsAdvanced, IsDriven}
use Rattle.host_embedding.specs.Fates.{IsNoted, KeepsFates, TellsFate, course_after, course_at, course_over, fate_at, fate_in, fate_of, kept_at, kept_in, nothing_done, reported}
use Rattle.host_embedding.specs.Held.{out_of}
use Rattle.host_embedding.specs.declared.call_result.CallResult.{CallResult}
use Rattle.host_embedding.specs.declared.call_result.CallResult.TheVariants.{Done, NotOut, OutOfMemory}
use Rattle.host_embedding.specs.declared.call_result.CallResult.TheVariants as results
use Rattle.host_embedding.specs.declared.fates.Course.{Course}
use Rattle.host_embedding.specs.declared.fates.Fate.{Fate}
use Rattle.host_embedding.specs.declared.fates.RunFate.{RunFate}
use Rattle.host_embedding.specs.declared.run_handle.HeldRun.{HeldRun}
use Rattle.host_embedding.specs.declared.run_handle.HeldRun.TheVariants.{Out, Spent, Stopped}
use Rattle.host_embedding.proofs.Courses.{course_append}

-- ---- what is kept goes by what was kept

after_same : (is : Bool) (stop : StoppedAt) (one other : Course) → one.kept ≡ other.kept → (if is then course_at one.kept stop else one).kept ≡ (if is then course_at other.kept stop else other).kept
after_same true stop one other same = ap (λ (f : Fate). kept_at f stop) same
after_same false stop one other same = same

kept_same : (run : ℕ) (one other : Course) (records : List Record) → one.kept ≡ other.kept → (course_over run one records).kept ≡ (course_over run other records).kept
kept_same run one other [] same = same
kept_same run one other (Called answer call ∷ rest) same = kept_same run one other rest same
kept_same run one other (Advance its instructions stop r0 ∷ rest) same =
    kept_same run (course_after run one (Advance its instructions stop r0)) (course_after run other (Advance its instructions stop r0)) rest (after_same (its == run) stop one other same)

same_true : (number : ℕ) → (number == number) ≡ true
same_true number = elim (cases_Bool (number == number)) [ inl is ↦ is | inr isnt ↦ absurd (grind (arith, nat_tests, isnt)) ]

turned_not : (a b : ℕ) → (b == a) ≡ false → (a == b) ≡ false
turned_not a b isnt = elim (cases_Bool (a == b)) [ inl so ↦ absurd (grind (arith, nat_tests, so, isnt)) | inr is ↦ is ]

-- what is told is what the last record of the run comes to
told_at : (run : ℕ) (course : Course) (front : List Record) (instructions : ℕ) (stop : StoppedAt) (r0 : ℕ) → (course_over run course (front ++ Advance run instructions stop r0 ∷ [])).told ≡ fate_at (course_over run course front).kept stop
told_at run course front instructions stop r0 =
    ap (λ (c : Course). c.told) (course_append run course front (Advance run instructions stop r0 ∷ []))
    ∙ ap (λ (b : Bool). (if b then course_at (course_over run course front).kept stop else course_over run course front).told) (same_true run)

-- ---- records of one run alone

-- they change what is kept of no other run
abbrev pub AreOwn : ℕ → List Record → Type 0
AreOwn number records = (other : ℕ) (course : Course) → (other == number) ≡ false → course_over other course records ≡ course

own_record : (number instructions : ℕ) (stop : StoppedAt) (r0 : ℕ) → AreOwn number (Advance number instructions stop r0 ∷ [])
own_record number instructions stop r0 = λ other course differs. ap (λ (b : Bool). if b then course_at course.kept stop else course) (turned_not number other differs)

own_both : (number : ℕ) (first second : List Record) → AreOwn number first → AreOwn number second → AreOwn number (first ++ second)
own_both number first second one two = λ other course differs. course_append other course first second ∙ (two other (course_over other course first) differs ∙ one other course differs)

-- a call made records of that run alone
pub record Own (old new : EngineState) (number : ℕ) : Type 0 where
  pub more : List Record
  pub history : new.history ≡ old.history ++ more
  pub taken : new.taken ≡ old.taken
  pub own : AreOwn number more

-- the last of them is an advance of the run
pub record Ends (number : ℕ) (more : List Record) : Type 0 where
  pub front : List Record
  pub instructions : ℕ
  pub stop : StoppedAt
  pub r0 : ℕ
  pub is : more ≡ front ++ Advance number instructions stop r0 ∷ []

-- the same, and of a call that is done its last one is an advance
pub record Goes (result : CallResult) (old new : EngineState) (number : ℕ) : Type 0 where
  pub made : Own old new number
  pub last : result ≡ Done → Ends number made.more

own_none : (old new : EngineState) (number : ℕ) → new ≡ old → Own old new number
own_none old new number same = record { more = []; history = ap (λ (s : EngineState). s.history) same ∙ sym (append-nil old.history); taken = ap (λ (s : EngineState). s.taken) same; own = λ other course differs. refl }

goes_none : (result : CallResult) (old new : EngineState) (number : ℕ) → new ≡ old → (result ≡ Done → ⊥) → Goes result old new number
goes_none result old new number same undone = record { made = own_none old new number same; last = λ done. absurd (undone done) }

own_more : (old between new : EngineState) (number its instructions : ℕ) (stop : StoppedAt) (r0 : ℕ) → its ≡ number → Own old between number → Records between new (Advance its instructions stop r0) → Own old new number
own_more old between new number its instructions stop r0 is made records = record {
  more = made.more ++ Advance number instructions stop r0 ∷ [];
  history = records.history ∙ (ap (λ (h : List Record). h ++ Advance its instructions stop r0 ∷ []) made.history ∙ (append_assoc old.history made.more (Advance its instructions stop r0 ∷ [])
      ∙ ap (λ (n : ℕ). old.history ++ (made.more ++ Advance n instructions stop r0 ∷ [])) is));
  taken = records.taken ∙ made.taken;
  own = own_both number made.more (Advance number instructions stop r0 ∷ []) made.own (own_record number instructions stop r0);
}

goes_more : (result : CallResult) (old between new : EngineState) (number its instructions : ℕ) (stop : StoppedAt) (r0 : ℕ) → its ≡ number → Own old between number → Records between new (Advance its instructions stop r0) → Goes result old new number
unfolding own_more
goes_more result old between new number its instructions stop r0 is made records = record {
  made = own_more old between new number its instructions stop r0 is made records;
  last = λ done. record { front = made.more; instructions = instructions; stop = stop; r0 = r0; is = refl };
}

-- ---- each call

pub goes_advanced : (result : CallResult) (was held : HeldRun) (old new : EngineState) (r0 : ℕ) (ended : Bool) (number : ℕ) → IfSome (out_of was) (λ run. run.number ≡ number) → IsAdvanced result was held old new r0 ended → Goes result old new number
goes_advanced Done (Stopped stopped) held old new r0 ended number is told = goes_more Done old old new number stopped.number _ _ r0 is (own_none old old number refl) told.0
goes_advanced OutOfMemory (Stopped stopped) held old new r0 ended number is told = goes_none OutOfMemory old new number told.0 (λ done. cc)
goes_advanced NotOut (Stopped stopped) held old new r0 ended number is told = goes_none NotOut old new number told.0 (λ done. cc)
goes_advanced result (Stopped stopped) held old new r0 ended number is told = absurd told
goes_advanced result (Out run) held old new r0 ended number is told = goes_none result old new number told.2 (λ done. let bad : Done ≡ results.NotStretched = sym done ∙ told.0 in cc)
goes_advanced result Spent held old new r0 ended number is told = goes_none result old new number told.2 (λ done. let bad : Done ≡ results.Spent = sym done ∙ told.0 in cc)

record Drove (old : EngineState) (number : ℕ) (now : EngineState) (at : RunState) : Type 0 where
  number_is : at.number ≡ number
  made : Own old now number

drove : (old : EngineState) (run : RunState) (number : ℕ) → run.number ≡ number → (now : EngineState) (at : RunState) (r0 : ℕ) → WentOn old run now at r0 → Drove old number now at
drove old run number is now at r0 begins = record { number_is = is; made = own_none old old number refl }
drove old run number is now at r0 (goes_on between after was again earlier_r0 told segment earlier taken) =
    let went = drove old run number is between was earlier_r0 earlier in
    record { number_is = taken.goes.0 ∙ went.number_is; made = own_more old between after number was.number _ _ _ went.number_is went.made taken.recorded }

pub driven_out : (result : CallResult) (out : Option RunState) (held : HeldRun) (old new : EngineState) (r0 : ℕ) (ended : Bool) (number : ℕ) → IfSome out (λ run. run.number ≡ number) → IsDriven result out held old new r0 ended → Goes result old new number
driven_out result None held old new r0 ended number is told = goes_none result old new number told.2 (λ done. let bad : Done ≡ results.Spent = sym done ∙ told.0 in cc)
driven_out Done (Some run) held old new r0 ended number is told =
    let ran = told.0 in
    let went = drove old run number is ran.between ran.at ran.before ran.went in
    goes_more Done old ran.between new number ran.at.number _ _ _ went.number_is went.made ran.last.recorded
driven_out OutOfMemory (Some run) held old new r0 ended number is told = record { made = (drove old run number is new told.0.0 r0 told.0.2).made; last = λ done. absurd (let bad : OutOfMemory ≡ Done = done in cc) }
driven_out NotOut (Some run) held old new r0 ended number is told = goes_none NotOut old new number told.1 (λ done. cc)
driven_out result (Some run) held old new r0 ended number is told = absurd told

-- the records since there were so many are kept, so that they can be noted
pub are_kept : (result : CallResult) (old new : EngineState) (number was : ℕ) → Goes result old new number → was ≡ length old.history → old.taken ≤ length old.history → (new.taken ≤ was) × (was ≤ length new.history)
are_kept result old new number was goes is within =
    let made = goes.made in
    let longer : length new.history ≡ length old.history + length made.more = ap (λ (h : List Record). length h) made.history ∙ length-append old.history made.more in
    (omega (arith, is, made.taken, within), omega (arith, is, longer))

-- ---- what is kept then

numbers_same : (a b : ℕ) → (a == b) ≡ true → a ≡ b
numbers_same a b is = grind (arith, nat_tests, is)

-- the course that was noted, by the records that were made
its_course : (old new : EngineState) (number was : ℕ) (fates later : List RunFate) (told : Fate) (made : Own old new number) → was ≡ length old.history → (noted : IsNoted number (drop was new.history) fates later told)
    → noted.course ≡ course_over number (record { kept = fate_of number fates; told = fate_of number fates }) made.more
its_course old new number was fates later told made is noted =
    noted.course_is ∙ ap (course_over number (record { kept = fate_of number fates; told = fate_of number fates }))
    (ap (drop was) made.history ∙ (ap (λ (n : ℕ). drop n (old.history ++ made.more)) is ∙ drop-append_seam old.history made.more))

pub keeps_noted : (result : CallResult) (old new : EngineState) (number was : ℕ) (fates later : List RunFate) (told : Fate) → Goes result old new number → was ≡ length old.history → KeepsFates fates old.history
    → IsNoted number (drop was new.history) fates later told → KeepsFates later new.history
keeps_noted result old new number was fates later told goes is keeps noted = λ run. elim (cases_Bool (run == number)) [
  | inl same ↦
      let made = goes.made in
      noted.put run
      ∙ (ap (λ (b : Bool). if b then noted.course.kept else fate_of run fates) same
      ∙ (ap (λ (c : Course). c.kept) (its_course old new number was fates later told made is noted)
      ∙ (kept_same number (record { kept = fate_of number fates; told = fate_of number fates }) (course_over number nothing_done old.history) made.more (keeps number)
      ∙ (ap (λ (c : Course). c.kept) (sym (course_append number nothing_done old.history made.more))
      ∙ (ap (kept_in number) (sym made.history) ∙ ap (λ (n : ℕ). kept_in n new.history) (sym (numbers_same run number same)))))))
  | inr differs ↦
      let made = goes.made in
      noted.put run
      ∙ (ap (λ (b : Bool). if b then noted.course.kept else fate_of run fates) differs
      ∙ (keeps run
      ∙ (ap (λ (c : Course). c.kept) (sym (made.own run (course_over run nothing_done old.history) differs))
      ∙ (ap (λ (c : Course). c.kept) (sym (course_append run nothing_done old.history made.more)) ∙ ap (kept_in run) (sym made.history)))))
]

-- what is told of a call that is done
told_is : (result : CallResult) (old new : EngineState) (number was : ℕ) (fates later : List RunFate) (told : Fate) → Goes result old new number → was ≡ length old.history → KeepsFates fates old.history
    → IsNoted number (drop was new.history) fates later told → result ≡ Done → told ≡ fate_in number new.history
told_is result old new number was fates later told goes is keeps noted done =
    let made = goes.made in
    let ends = goes.last done in
    let start : Course = record { kept = fate_of number fates; told = fate_of number fates } in
    let begun : Course = course_over number nothing_done old.history in
    noted.told_is
    ∙ (ap (λ (c : Course). c.told) (its_course old new number was fates later told made is noted)
    ∙ (ap (λ (m : List Record). (course_over number start m).told) ends.is
    ∙ (told_at number start ends.front ends.instructions ends.stop ends.r0
    ∙ (ap (λ (f : Fate). fate_at f ends.stop) (kept_same number start begun ends.front (keeps number))
    ∙ (sym (told_at number begun ends.front ends.instructions ends.stop ends.r0)
    ∙ (ap (λ (m : List Record). (course_over number begun m).told) (sym ends.is)
    ∙ (ap (λ (c : Course). c.told) (sym (course_append number nothing_done old.history made.more)) ∙ ap (fate_in number) (sym made.history))))))))

-- ---- what is reported

-- a result tells that the run is spent just if it is
pub record SpentTold (result : CallResult) (out : Option RunState) : Type 0 where
  pub none : out ≡ None → result ≡ results.Spent
  pub some : result ≡ results.Spent → out ≡ None

pub spent_advanced : (result : CallResult) (was held : HeldRun) (old new : EngineState) (r0 : ℕ) (ended : Bool) → IsAdvanced result was held old new r0 ended → SpentTold result (out_of was)
spent_advanced results.Spent (Stopped stopped) held old new r0 ended told = absurd told
spent_advanced result (Stopped stopped) held old new r0 ended told = record { none = λ e. cc; some = λ e. cc }
spent_advanced result (Out run) held old new r0 ended told = record { none = λ e. cc; some = λ e. absurd (let bad : results.Spent ≡ results.NotStretched = sym e ∙ told.0 in cc) }
spent_advanced result Spent held old new r0 ended told = record { none = λ e. told.0; some = λ e. refl }

pub spent_driven : (result : CallResult) (out : Option RunState) (held : HeldRun) (old new : EngineState) (r0 : ℕ) (ended : Bool) → IsDriven result out held old new r0 ended → SpentTold result out
spent_driven result None held old new r0 ended told = record { none = λ e. told.0; some = λ e. refl }
spent_driven results.Spent (Some run) held old new r0 ended told = absurd told
spent_driven result (Some run) held old new r0 ended told = record { none = λ e. cc; some = λ e. cc }

tells : (result : CallResult) (out : Option RunState) (number : ℕ) (history : List Record) (told kept fate : Fate) → SpentTold result out → IfSome out (λ run. run.number ≡ number) → kept ≡ kept_in number history
    → (result ≡ Done → told ≡ fate_in number history) → fate ≡ reported result told kept → TellsFate result out history fate
tells result None number history told before fate spent is keeps done reports = reports ∙ ap (λ (r : CallResult). reported r told before) (spent.none refl)
tells Done (Some run) number history told before fate spent is keeps done reports = reports ∙ (done refl ∙ ap (λ (n : ℕ). fate_in n history) (sym is))
tells NotOut (Some run) number history told before fate spent is keeps done reports = reports
tells results.Spent (Some run) number history told before fate spent is keeps done reports = absurd (let bad : Some run ≡ None = spent.some refl in cc)
tells result (Some run) number history told before fate spent is keeps done reports = reports ∙ (keeps ∙ ap (λ (n : ℕ). kept_in n history) (sym is))

-- of a call that asked the engine
tells_noted : (result : CallResult) (out : Option RunState) (old new : EngineState) (number was : ℕ) (fates later : List RunFate) (told kept fate : Fate) → SpentTold result out → IfSome out (λ run. run.number ≡ number) → Goes result old new number
    → was ≡ length old.history → KeepsFates fates old.history → IsNoted number (drop was new.history) fates later told → kept ≡ fate_of number later → fate ≡ reported result told kept → TellsFate result out new.history fate
tells_noted result out old new number was fates later told kept fate spent is goes count keeps noted found reports =
    tells result out number new.history told kept fate spent is (found ∙ keeps_noted result old new number was fates later told goes count keeps noted number)
    (told_is result old new number was fates later told goes count keeps noted) reports

pub keeps_advanced : (result : CallResult) (was_held held : HeldRun) (old new : EngineState) (r0 : ℕ) (ended : Bool) (number was : ℕ) (fates later : List RunFate) (told : Fate) → IfSome (out_of was_held) (λ run. run.number ≡ number) → IsAdvanced result was_held held old new r0 ended
    → was ≡ length old.history → KeepsFates fates old.history → IsNoted number (drop was new.history) fates later told → KeepsFates later new.history
keeps_advanced result was_held held old new r0 ended number was fates later told is advanced count keeps noted = keeps_noted result old new number was fates later told (goes_advanced result was_held held old new r0 ended number is advanced) count keeps noted

pub tells_advanced : (result : CallResult) (was_held held : HeldRun) (old new : EngineState) (r0 : ℕ) (ended : Bool) (number was : ℕ) (fates later : List RunFate) (told kept fate : Fate) → IfSome (out_of was_held) (λ run. run.number ≡ number) → IsAdvanced result was_held held old new r0 ended
    → was ≡ length old.history → KeepsFates fates old.history → IsNoted number (drop was new.history) fates later told → kept ≡ fate_of number later → fate ≡ reported result told kept → TellsFate result (out_of was_held) new.history fate
tells_advanced result was_held held old new r0 ended number was fates later told kept fate is advanced count keeps noted found reports =
    tells_noted result (out_of was_held) old new number was fates later told kept fate (spent_advanced result was_held held old new r0 ended advanced) is (goes_advanced result was_held held old new r0 ended number is advanced) count keeps noted found reports

pub keeps_driven : (result : CallResult) (out : Option RunState) (held : HeldRun) (old new : EngineState) (r0 : ℕ) (ended : Bool) (number was : ℕ) (fates later : List RunFate) (told : Fate) → IfSome out (λ run. run.number ≡ number) → IsDriven result out held old new r0 ended
    → was ≡ length old.history → KeepsFates fates old.history → IsNoted number (drop was new.history) fates later told → KeepsFates later new.history
keeps_driven result out held old new r0 ended number was fates later told is driven count keeps noted = keeps_noted result old new number was fates later told (driven_out result out held old new r0 ended number is driven) count keeps noted

pub tells_driven : (result : CallResult) (out : Option RunState) (held : HeldRun) (old new : EngineState) (r0 : ℕ) (ended : Bool) (number was : ℕ) (fates later : List RunFate) (told kept fate : Fate) → IfSome out (λ run. run.number ≡ number) → IsDriven result out held old new r0 ended
    → was ≡ length old.history → KeepsFates fates old.history → IsNoted number (drop was new.history) fates later told → kept ≡ fate_of number later → fate ≡ reported result told kept → TellsFate result out new.history fate
tells_driven result out held old new r0 ended number was fates later told kept fate is driven count keeps noted found reports =
    tells_noted result out old new number was fates later told kept fate (spent_driven result out held old new r0 ended driven) is (driven_out result out held old new r0 ended number is driven) count keeps noted found reports

-- of a call that did not
pub tells_unasked : (result : CallResult) (out : Option RunState) (state : EngineState) (number : ℕ) (fates : List RunFate) (told kept fate : Fate) → SpentTold result out → IfSome out (λ run. run.number ≡ number) → result ≢ Done
    → KeepsFates fates state.history → kept ≡ fate_of number fates → fate ≡ reported result told kept → TellsFate result out state.history fate
tells_unasked result out state number fates told kept fate spent is undone keeps found reports =
    tells result out number state.history told kept fate spent is (found ∙ keeps number) (λ done. absurd (undone done)) reports
