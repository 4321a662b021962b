-- What runs did with their CCBs, as it is kept: record by record.
use Rattle.std.proofs.Common.{◌≡◌, ◌==◌, ◌+◌, ◌<◌, ◌≤◌, ◌∙◌, ℕ, Bool, true, false, cond, not, Option, Some, None, List, [], ◌∷◌, ◌++◌, append-nil, get_or, drop, length, inl, inr, refl, sym, ap, subst, arith}
use Rattle.std.specs.Prelude.{find, if◌then◌else◌}
use Rattle.std.specs.Option.{option_map}
use Rattle.std.proofs.lemmas.Bool.Decides.{nat_tests}
use Rattle.std.specs.List.{between}
use Rattle.std.proofs.lemmas.Bool.{cases_Bool}
use Rattle.std.proofs.lemmas.List.Edits.{between_none, between_more}
use Rattle.std.proofs.lemmas.Slice.{between_to_end}
use Rattle.ccb.specs.declared.call_refusal.CallRefusal.{CallRefusal}
use Rattle.world_calls.specs.declared.call.Call.{Call}
use Rattle.world_calls.specs.declared.call_answer.CallAnswer.{CallAnswer}
use Rattle.world_calls.specs.declared.call_answer.CallAnswer.TheVariants as answers
use Rattle.world_calls.specs.declared.record.Record.{Record}
use Rattle.world_calls.specs.declared.record.Record.TheVariants.{Called}
use Rattle.world.specs.World.{Setup, World, class_kept, has_classes}
use Rattle.engine_core.specs.declared.answers.CallFault.{CallFault}
use Rattle.engine_core.specs.declared.answers.CallFault.TheVariants.{OutOfMemory, Refused}
use Rattle.engine_core.specs.EngineState.{EngineState, Records}
use Rattle.engine_core.specs.Faults.{FaultIs}
use Rattle.engine_core.specs.Settings.{setup_over}
use Rattle.host_embedding.specs.Fates.{IsPut, KeepsFates, course_after, course_over, fate_of, fate_or_kept, kept_in, nothing_done, without_run}
use Rattle.host_embedding.specs.declared.fates.Course.{Course}
use Rattle.host_embedding.specs.declared.fates.Fate.{Fate}
use Rattle.host_embedding.specs.declared.fates.Fate.TheVariants.{Kept}
use Rattle.host_embedding.specs.declared.fates.RunFate.{RunFate}

-- ---- records one after the other

pub course_append : (run : ℕ) (course : Course) (xs ys : List Record) → course_over run course (xs ++ ys) ≡ course_over run (course_over run course xs) ys
course_append run course [] ys = refl
course_append run course (x ∷ xs) ys = course_append run (course_after run course x) xs ys

-- a call changes nothing
pub kept_called : (run : ℕ) (records : List Record) (answer : CallAnswer) (call : Call) → kept_in run (records ++ Called answer call ∷ []) ≡ kept_in run records
kept_called run records answer call = ap (λ (c : Course). c.kept) (course_append run nothing_done records (Called answer call ∷ []))

-- ---- an engine's

pub none_kept : (fates : List RunFate) (history : List Record) → fates ≡ [] → history ≡ [] → KeepsFates fates history
none_kept fates history no_fates no_records = λ run. ap (fate_of run) no_fates ∙ ap (kept_in run) (sym no_records)

pub same : (old new : EngineState) (fates : List RunFate) → KeepsFates fates old.history → new ≡ old → KeepsFates fates new.history
same old new fates keeps e = subst (λ (it : EngineState). KeepsFates fates it.history) (sym e) keeps

pub called : (old new : EngineState) (answer : CallAnswer) (call : Call) (fates : List RunFate) → KeepsFates fates old.history → Records old new (Called answer call) → KeepsFates fates new.history
called old new answer call fates keeps records = λ run. keeps run ∙ (sym (kept_called run old.history answer call) ∙ ap (kept_in run) (sym records.history))

pub faulted : (old new : EngineState) (fault : CallFault) (call : Call) (fates : List RunFate) → KeepsFates fates old.history
    → FaultIs fault (new ≡ old) (λ (refusal : CallRefusal). Records old new (Called (answers.Refused refusal) call)) → KeepsFates fates new.history
faulted old new OutOfMemory call fates keeps e = same old new fates keeps e
faulted old new (Refused refusal) call fates keeps records = called old new (answers.Refused refusal) call fates keeps records

-- the class that is said is the configuration's to ask for
pub class_over : (config setup : Setup) (over : Option World) (class : ℕ) → setup_over config over ≡ setup → (if has_classes config then Some class else None) ≡ class_kept setup class
class_over config setup over class is = ap (λ (s : Setup). class_kept s class) is

-- ---- the walk

pub none_yet : (run : ℕ) (course : Course) (records : List Record) (from : ℕ) → course ≡ course_over run course (between from from records)
none_yet run course records from = ap (course_over run course) (sym (between_none records from))

pub one_more : (run : ℕ) (start now next : Course) (records : List Record) (from number : ℕ) (told : Record) → from ≤ number → number < length records → told ≡ get_or records number told
    → now ≡ course_over run start (between from number records) → next ≡ course_after run now told → next ≡ course_over run start (between from (number + 1) records)
one_more run start now next records from number told onwards within is so step =
    let earlier : List Record = between from number records in
    let longer : between from (number + 1) records ≡ earlier ++ told ∷ [] = between_more records from number told onwards within ∙ ap (λ (it : Record). earlier ++ it ∷ []) (sym is) in
    step ∙ (ap (λ (c : Course). course_after run c told) so ∙ (sym (course_append run start earlier (told ∷ [])) ∙ ap (course_over run start) (sym longer)))

pub all_of_them : (run : ℕ) (start : Course) (records : List Record) (from number : ℕ) (now : Course) → length records ≤ number → now ≡ course_over run start (between from number records) → now ≡ course_over run start (drop from records)
all_of_them run start records from number now all so = so ∙ ap (course_over run start) (between_to_end records from number all)

-- ---- what is kept, in its list

-- the fate of the first, if it is the run's, and of the others else
is_first : (other : ℕ) (x : RunFate) (xs : List RunFate) → (x.run == other) ≡ true → fate_of other (x ∷ xs) ≡ x.fate
is_first other x xs is = ap (λ (b : Bool). fate_or_kept (option_map (λ (it : RunFate). it.fate) (cond b (Some x) (find (λ (it : RunFate). it.run == other) xs)))) is

no_first : (other : ℕ) (x : RunFate) (xs : List RunFate) → (x.run == other) ≡ false → fate_of other (x ∷ xs) ≡ fate_of other xs
no_first other x xs is = ap (λ (b : Bool). fate_or_kept (option_map (λ (it : RunFate). it.fate) (cond b (Some x) (find (λ (it : RunFate). it.run == other) xs)))) is

abbrev put_in : Bool → Fate → Fate → Fate
put_in is fate before = if is then fate else before

is_put : (is : Bool) (fate before : Fate) → is ≡ true → put_in is fate before ≡ fate
is_put is fate before so = ap (λ (b : Bool). put_in b fate before) so

not_put : (is : Bool) (fate before : Fate) → is ≡ false → put_in is fate before ≡ before
not_put is fate before so = ap (λ (b : Bool). put_in b fate before) so

goes_out : (run : ℕ) (x : RunFate) (xs : List RunFate) → (x.run == run) ≡ true → without_run run (x ∷ xs) ≡ without_run run xs
goes_out run x xs is = ap (λ (b : Bool). cond (not b) (x ∷ without_run run xs) (without_run run xs)) is

stays_in : (run : ℕ) (x : RunFate) (xs : List RunFate) → (x.run == run) ≡ false → without_run run (x ∷ xs) ≡ x ∷ without_run run xs
stays_in run x xs is = ap (λ (b : Bool). cond (not b) (x ∷ without_run run xs) (without_run run xs)) is

-- of two numbers that are the same one, and of two that are not
differs : (a b c : ℕ) → (a == b) ≡ true → (c == b) ≡ false → (a == c) ≡ false
differs a b c same other = elim (cases_Bool (a == c)) [
  | inl is ↦ absurd (grind (arith, nat_tests, same, other, is))
  | inr isnt ↦ isnt
]

parts_from : (a b c : ℕ) → (a == b) ≡ false → (a == c) ≡ true → (c == b) ≡ false
parts_from a b c other same = elim (cases_Bool (c == b)) [
  | inl is ↦ absurd (grind (arith, nat_tests, same, other, is))
  | inr isnt ↦ isnt
]

-- without those of a run, and then a list that has its fate alone
put_before : (run : ℕ) (fate : Fate) (last : List RunFate) (base : (other : ℕ) → fate_of other last ≡ put_in (other == run) fate Kept) (fates : List RunFate) (other : ℕ)
    → fate_of other (without_run run fates ++ last) ≡ put_in (other == run) fate (fate_of other fates)
put_before run fate last base [] other = base other
put_before run fate last base (x ∷ xs) other = elim (cases_Bool (x.run == run)) [
  | inl a ↦ elim (cases_Bool (other == run)) [
    | inl b ↦ ap (λ (its : List RunFate). fate_of other (its ++ last)) (goes_out run x xs a) ∙ (put_before run fate last base xs other ∙ (is_put (other == run) fate (fate_of other xs) b ∙ sym (is_put (other == run) fate (fate_of other (x ∷ xs)) b)))
    | inr b ↦ ap (λ (its : List RunFate). fate_of other (its ++ last)) (goes_out run x xs a) ∙ (put_before run fate last base xs other ∙ (not_put (other == run) fate (fate_of other xs) b
        ∙ (sym (no_first other x xs (differs x.run run other a b)) ∙ sym (not_put (other == run) fate (fate_of other (x ∷ xs)) b))))
  ]
  | inr a ↦ elim (cases_Bool (x.run == other)) [
    | inl c ↦ ap (λ (its : List RunFate). fate_of other (its ++ last)) (stays_in run x xs a) ∙ (is_first other x (without_run run xs ++ last) c
        ∙ (sym (is_first other x xs c) ∙ sym (not_put (other == run) fate (fate_of other (x ∷ xs)) (parts_from x.run run other a c))))
    | inr c ↦ ap (λ (its : List RunFate). fate_of other (its ++ last)) (stays_in run x xs a) ∙ (no_first other x (without_run run xs ++ last) c ∙ (put_before run fate last base xs other
        ∙ ap (put_in (other == run) fate) (sym (no_first other x xs c))))
  ]
]

none_last : (run : ℕ) (other : ℕ) → fate_of other [] ≡ put_in (other == run) Kept Kept
none_last run other = elim (cases_Bool (other == run)) [
  | inl is ↦ sym (is_put (other == run) Kept Kept is)
  | inr isnt ↦ sym (not_put (other == run) Kept Kept isnt)
]

one_last : (run : ℕ) (fate : Fate) (other : ℕ) → fate_of other (record { run = run; fate = fate } ∷ []) ≡ put_in (other == run) fate Kept
one_last run fate other = elim (cases_Bool (other == run)) [
  | inl is ↦ is_first other (record { run = run; fate = fate }) [] (turned run other is) ∙ sym (is_put (other == run) fate Kept is)
  | inr isnt ↦ no_first other (record { run = run; fate = fate }) [] (turned_not run other isnt) ∙ sym (not_put (other == run) fate Kept isnt)
]
  where
    turned : (a b : ℕ) → (b == a) ≡ true → (a == b) ≡ true
    turned a b is = elim (cases_Bool (a == b)) [ inl so ↦ so | inr isnt ↦ absurd (grind (arith, nat_tests, is, isnt)) ]

    turned_not : (a b : ℕ) → (b == a) ≡ false → (a == b) ≡ false
    turned_not a b isnt = elim (cases_Bool (a == b)) [ inl so ↦ absurd (grind (arith, nat_tests, so, isnt)) | inr is ↦ is ]

pub put_nothing : (run : ℕ) (fate : Fate) (old new : List RunFate) → fate ≡ Kept → new ≡ without_run run old → IsPut run fate old new
put_nothing run fate old new none is = λ other.
    ap (fate_of other) (is ∙ sym (append-nil (without_run run old)))
    ∙ (put_before run Kept [] (none_last run) old other ∙ ap (λ (f : Fate). put_in (other == run) f (fate_of other old)) (sym none))

pub put_last : (run : ℕ) (fate : Fate) (old kept new : List RunFate) → kept ≡ without_run run old → new ≡ kept ++ record { run = run; fate = fate } ∷ [] → IsPut run fate old new
put_last run fate old kept new is added = λ other.
    ap (fate_of other) (added ∙ ap (λ (its : List RunFate). its ++ record { run = run; fate = fate } ∷ []) is)
    ∙ put_before run fate (record { run = run; fate = fate } ∷ []) (one_last run fate) old other
