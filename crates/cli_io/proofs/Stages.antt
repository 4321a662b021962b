-- What a step leads to, from where the steps before led.
use Rattle.std.proofs.Common.{◌≡◌, ◌≢◌, ◌∙◌, ℕ, Bool, true, false, Result, Ok, Err, MatchResult, ◌+◌, ◌-◌, ◌≤◌, Option, Some, None, List, [], ◌∷◌, ◌++◌, refl, sym, ap, subst, append_assoc, append-nil, take, drop, length, arith, length-drop}
use Rattle.std.proofs.lemmas.List.{take-append-drop, take_all}
use Rattle.std.proofs.Math.Seq.{take-add}
use Rattle.cli_io.specs.declared.folder.Look.{Look}
use Rattle.cli_io.specs.declared.folder.Look.TheVariants.{File, Stream}
use Rattle.cli_io.specs.declared.folder.Rights.{Rights}
use Rattle.cli_io.specs.Folders.{Step, Led, Looked, Drawn, Made, Opened, Put, Dressed, Synced, Moved, Removed, Settled, Stays, Adds}
use Rattle.cli_io.specs.Replacing.{Stage, Begun, AtOut, Seen, Drafting, Placed, Done, Pouring, Draft, Reached, begins, leads, looks, draws, makes, opens, puts, dresses, syncs, moves, settles, removes, At, IsDressedFor, IsFrontOf, MayTakePlace, Replaces, TakesBytes, beside, draft_of, first_mode_of, new_draft, with_more}

pub at_stays : (path bytes : List ℕ) (base old new : Option (List Step)) (stage : Stage) → At path bytes base old stage → Stays old new → At path bytes base new stage
at_stays path bytes None old new stage at stays = tt
at_stays path bytes (Some before) old new stage at stays =
    let S : Option (List Step) → Type 0 = λ o. Stays o new in
    (at.0, subst S at.1 stays, at.2)

-- what is to be shown of one step more
abbrev pub Goes : (path bytes : List ℕ) → Step → Stage → Stage → Type 0
Goes path bytes step from to = (before steps : List Step) → Reached path bytes before steps from → Reached path bytes before (steps ++ step ∷ []) to

pub at_adds : (path bytes : List ℕ) (base old new : Option (List Step)) (from to : Stage) (step : Step) → At path bytes base old from → Adds old step new → Goes path bytes step from to → At path bytes base new to
at_adds path bytes None old new from to step at adds goes = tt
at_adds path bytes (Some before) old new from to step at adds goes =
    let S : Option (List Step) → Type 0 = λ o. Adds o step new in
    (at.0 ++ step ∷ [], subst S at.1 adds, goes before at.0 at.2)

pub more_nothing : (stage : Stage) → with_more stage [] ≡ stage
more_nothing Begun = refl
more_nothing (AtOut out) = refl
more_nothing (Seen out look drawn) = refl
more_nothing (Drafting draft) = ap (λ w. Drafting (record draft { written = w })) (append-nil draft.written)
more_nothing (Placed out) = refl
more_nothing (Done out) = refl
more_nothing (Pouring out written) = ap (λ w. Pouring out w) (append-nil written)

pub more_both : (stage : Stage) (first second : List ℕ) → with_more (with_more stage first) second ≡ with_more stage (first ++ second)
more_both Begun first second = refl
more_both (AtOut out) first second = refl
more_both (Seen out look drawn) first second = refl
more_both (Drafting draft) first second = ap (λ w. Drafting (record draft { written = w })) (append_assoc draft.written first second)
more_both (Placed out) first second = refl
more_both (Done out) first second = refl
more_both (Pouring out written) first second = ap (λ w. Pouring out w) (append_assoc written first second)

-- ---- what is written begins the bytes

pub front_of_all : (bytes : List ℕ) → IsFrontOf bytes bytes
front_of_all bytes = ([], sym (append-nil bytes))

pub front_taken : (count : ℕ) (bytes : List ℕ) → IsFrontOf (take count bytes) bytes
front_taken count bytes = (drop count bytes, sym (take-append-drop count bytes))

pub front_behind : (written first second some bytes : List ℕ) → IsFrontOf (first ++ second) some → IsFrontOf (written ++ some) bytes → IsFrontOf ((written ++ first) ++ second) bytes
front_behind written first second some bytes inner outer = (
  inner.0 ++ outer.0,
  outer.1
      ∙ ap (λ (t : List ℕ). (written ++ t) ++ outer.0) inner.1
      ∙ ap (λ (t : List ℕ). t ++ outer.0) (sym (append_assoc written (first ++ second) inner.0))
      ∙ append_assoc (written ++ (first ++ second)) inner.0 outer.0
      ∙ ap (λ (t : List ℕ). t ++ (inner.0 ++ outer.0)) (sym (append_assoc written first second)),
)

-- of the bytes that come next some came, and others come next
pub takes_more : (whole : List ℕ) (stage : Stage) (first second some : List ℕ) → IsFrontOf (first ++ second) some → TakesBytes whole stage some → TakesBytes whole (with_more stage first) second
takes_more whole Begun first second some front takes = takes
takes_more whole (AtOut out) first second some front takes = takes
takes_more whole (Seen out look drawn) first second some front takes = takes
takes_more whole (Drafting draft) first second some front takes = (takes.0, front_behind draft.written first second some whole front takes.1)
takes_more whole (Placed out) first second some front takes = takes
takes_more whole (Done out) first second some front takes = takes
takes_more whole (Pouring out written) first second some front takes = front_behind written first second some whole front takes

pub put_more : (path whole : List ℕ) (base old new : Option (List Step)) (stage : Stage) (first second some : List ℕ) → IsFrontOf (first ++ second) some → TakesBytes whole stage some
    → At path whole base old (with_more stage first) → Adds old (Put second) new → At path whole base new (with_more stage (first ++ second))
put_more path whole base old new stage first second some front takes at adds =
    let A : Stage → Type 0 = λ s. At path whole base new s in
    subst A (more_both stage first second)
    (at_adds path whole base old new (with_more stage first) (with_more (with_more stage first) second) (Put second) at adds
    (λ before steps reached. puts steps (with_more stage first) second reached (takes_more whole stage first second some front takes)))

pub none_more : (path whole : List ℕ) (base old : Option (List Step)) (stage : Stage) → At path whole base old stage → At path whole base old (with_more stage [])
none_more path whole base old stage at =
    let A : Stage → Type 0 = λ s. At path whole base old s in
    subst A (sym (more_nothing stage)) at

pub taken_on : (text : List ℕ) (taken count : ℕ) → taken ≤ length text → count ≤ length (take (length text - taken) (drop taken text))
    → (taken + count ≤ length text) × (take (taken + count) text ≡ take taken text ++ take count (take (length text - taken) (drop taken text)))
taken_on text taken count within few =
    let all : take (length text - taken) (drop taken text) ≡ drop taken text = take_all (length text - taken) (drop taken text) (omega (arith, length-drop taken text)) in
    (omega (arith, few, ap length all, length-drop taken text), take-add taken count text ∙ ap (λ (t : List ℕ). take taken text ++ take count t) (sym all))

-- a call that takes a step, or fails
pub step_or_none : {T E : Type 0} (path whole : List ℕ) (base old new : Option (List Step)) (from to : Stage) (step : Step) (r : Result T E) → At path whole base old from
    → MatchResult r (λ _. Adds old step new) (λ _. Stays old new) → Goes path whole step from to → MatchResult r (λ _. At path whole base new to) (λ _. At path whole base new from)
step_or_none path whole base old new from to step (Ok done) at says goes = at_adds path whole base old new from to step at says goes
step_or_none path whole base old new from to step (Err fault) at says goes = at_stays path whole base old new from at says

-- a number was drawn
pub drawn_there : (path whole : List ℕ) (base old new : Option (List Step)) (out : List ℕ) (look : Look) (drawn : Option ℕ) (number : ℕ) → At path whole base old (Seen out look drawn) → Adds old (Drawn number) new
    → MayTakePlace look → At path whole base new (Seen out look (Some number))
drawn_there path whole base old new out look drawn number at adds may =
    at_adds path whole base old new (Seen out look drawn) (Seen out look (Some number)) (Drawn number) at adds (λ before steps reached. draws steps out look drawn number reached may)

pub made_there : (path whole : List ℕ) (base old new : Option (List Step)) (out : List ℕ) (look : Look) (number : ℕ) (name said : List ℕ) (mode : ℕ) → At path whole base old (Seen out look (Some number)) → Adds old (Made said mode) new
    → said ≡ name → name ≡ beside out number → mode ≡ first_mode_of look → MayTakePlace look → name ≢ out → At path whole base new (Drafting (new_draft out look name))
made_there path whole base old new out look number name said mode at adds is named first may other =
    let N : List ℕ → Type 0 = λ n. Adds old (Made n mode) new in
    let M : ℕ → Type 0 = λ m. Adds old (Made (beside out number) m) new in
    let O : List ℕ → Type 0 = λ n. n ≢ out in
    let D : List ℕ → Type 0 = λ n. At path whole base new (Drafting (new_draft out look n)) in
    subst D (sym named)
    (at_adds path whole base old new (Seen out look (Some number)) (Drafting (new_draft out look (beside out number))) (Made (beside out number) (first_mode_of look)) at (subst M first (subst N (is ∙ named) adds))
    (λ before steps reached. makes steps out look number reached may (subst O named other)))

pub dressed_or_not : {T E : Type 0} (path whole : List ℕ) (base old new : Option (List Step)) (out : List ℕ) (rights : Rights) (name : List ℕ) (r : Result T E)
    → At path whole base old (Drafting (draft_of out (File rights) name whole false false)) → MatchResult r (λ _. Adds old (Dressed rights) new) (λ _. Stays old new)
    → MatchResult r (λ _. (dressed : Bool) × IsDressedFor (File rights) dressed × At path whole base new (Drafting (draft_of out (File rights) name whole dressed false)))
    (λ _. At path whole base new (Drafting (draft_of out (File rights) name whole false false)))
dressed_or_not path whole base old new out rights name (Ok done) at says = (
  true,
  refl,
  at_adds path whole base old new (Drafting (draft_of out (File rights) name whole false false)) (Drafting (draft_of out (File rights) name whole true false)) (Dressed rights) at says
      (λ before steps reached. dresses steps (draft_of out (File rights) name whole false false) rights reached refl refl),
)
dressed_or_not path whole base old new out rights name (Err fault) at says = at_stays path whole base old new (Drafting (draft_of out (File rights) name whole false false)) at says

pub dressed_as : {T E : Type 0} (path whole : List ℕ) (base old new : Option (List Step)) (out : List ℕ) (look : Look) (rights : Rights) (name : List ℕ) (r : Result T E) → look ≡ File rights
    → At path whole base old (Drafting (draft_of out look name whole false false)) → MatchResult r (λ _. Adds old (Dressed rights) new) (λ _. Stays old new)
    → MatchResult r (λ _. (dressed : Bool) × IsDressedFor look dressed × At path whole base new (Drafting (draft_of out look name whole dressed false)))
    (λ _. At path whole base new (Drafting (draft_of out look name whole false false)))
dressed_as path whole base old new out look rights name r is at says =
    let A : Look → Type 0 = λ l. At path whole base old (Drafting (draft_of out l name whole false false)) in
    let M : Look → Type 0 = λ l. MatchResult r (λ _. (dressed : Bool) × IsDressedFor l dressed × At path whole base new (Drafting (draft_of out l name whole dressed false)))
    (λ _. At path whole base new (Drafting (draft_of out l name whole false false))) in
    subst M (sym is) (dressed_or_not path whole base old new out rights name r (subst A is at) says)

pub moved_or_not : {T E : Type 0} (path whole : List ℕ) (base old new : Option (List Step)) (out : List ℕ) (look : Look) (name : List ℕ) (dressed : Bool) (r : Result T E)
    → At path whole base old (Drafting (draft_of out look name whole dressed true)) → IsDressedFor look dressed → MatchResult r (λ _. Adds old (Moved name out) new) (λ _. Stays old new)
    → MatchResult r (λ _. At path whole base new (Placed out)) (λ _. (draft : Draft) × At path whole base new (Drafting draft) × (draft.name ≡ name))
moved_or_not path whole base old new out look name dressed (Ok done) at is says =
    at_adds path whole base old new (Drafting (draft_of out look name whole dressed true)) (Placed out) (Moved name out) at says
    (λ before steps reached. moves steps (draft_of out look name whole dressed true) reached refl is refl)
moved_or_not path whole base old new out look name dressed (Err fault) at is says =
    (draft_of out look name whole dressed true, at_stays path whole base old new (Drafting (draft_of out look name whole dressed true)) at says, refl)

pub synced_there : (path whole : List ℕ) (base old new : Option (List Step)) (out : List ℕ) (look : Look) (name : List ℕ) (dressed : Bool) → At path whole base old (Drafting (draft_of out look name whole dressed false)) → Adds old Synced new
    → At path whole base new (Drafting (draft_of out look name whole dressed true))
synced_there path whole base old new out look name dressed at adds =
    at_adds path whole base old new (Drafting (draft_of out look name whole dressed false)) (Drafting (draft_of out look name whole dressed true)) Synced at adds
    (λ before steps reached. syncs steps (draft_of out look name whole dressed false) reached)

pub poured_or_not : {T E : Type 0} (path whole : List ℕ) (base new : Option (List Step)) (out : List ℕ) (r : Result T E)
    → MatchResult r (λ _. At path whole base new (Pouring out whole)) (λ _. (some : List ℕ) × IsFrontOf some whole × At path whole base new (Pouring out some)) → Replaces path whole base r new
poured_or_not path whole base new out (Ok done) says = (Pouring out whole, says, refl)
poured_or_not path whole base new out (Err fault) says = (Pouring out says.0, says.2, says.1)

pub opened_there : (path whole : List ℕ) (base old new : Option (List Step)) (out : List ℕ) → At path whole base old (Seen out Stream None) → Adds old (Opened out) new → At path whole base new (Pouring out [])
opened_there path whole base old new out at adds =
    at_adds path whole base old new (Seen out Stream None) (Pouring out []) (Opened out) at adds (λ before steps reached. opens steps out reached)

pub settled_there : (path whole : List ℕ) (base old new : Option (List Step)) (out : List ℕ) → At path whole base old (Placed out) → Adds old (Settled out) new → At path whole base new (Done out)
settled_there path whole base old new out at adds =
    at_adds path whole base old new (Placed out) (Done out) (Settled out) at adds (λ before steps reached. settles steps out reached)

pub removed_there : (path whole : List ℕ) (base old new : Option (List Step)) (draft : Draft) (said : List ℕ) → At path whole base old (Drafting draft) → Adds old (Removed said) new → said ≡ draft.name
    → At path whole base new (Seen draft.out draft.look None)
removed_there path whole base old new draft said at adds is =
    let R : List ℕ → Type 0 = λ n. Adds old (Removed n) new in
    at_adds path whole base old new (Drafting draft) (Seen draft.out draft.look None) (Removed draft.name) at (subst R is adds) (λ before steps reached. removes steps draft reached)

-- nothing was done as yet
pub begun_there : (path whole : List ℕ) (base : Option (List Step)) → At path whole base base Begun
begun_there path whole None = tt
begun_there path whole (Some before) = (before, refl, begins)

pub led_there : (path whole : List ℕ) (base old new : Option (List Step)) (out : List ℕ) → At path whole base old Begun → Adds old (Led path out) new → At path whole base new (AtOut out)
led_there path whole base old new out at adds =
    at_adds path whole base old new Begun (AtOut out) (Led path out) at adds (λ before steps reached. leads steps out reached)

pub looked_there : (path whole : List ℕ) (base old new : Option (List Step)) (out said : List ℕ) (look : Look) → At path whole base old (AtOut out) → Adds old (Looked said look) new → said ≡ out
    → At path whole base new (Seen out look None)
looked_there path whole base old new out said look at adds is =
    let L : List ℕ → Type 0 = λ n. Adds old (Looked n look) new in
    at_adds path whole base old new (AtOut out) (Seen out look None) (Looked out look) at (subst L is adds) (λ before steps reached. looks steps out look reached)

-- where what was seen is named
pub seen_as : {T E : Type 0} (path whole : List ℕ) (base now new : Option (List Step)) (out : List ℕ) (look named : Look) (r : Result T E) → look ≡ named → At path whole base now (Seen out look None)
    → (At path whole base now (Seen out named None) → Replaces path whole base r new) → Replaces path whole base r new
seen_as path whole base now new out look named r is at goes =
    let A : Look → Type 0 = λ l. At path whole base now (Seen out l None) in
    goes (subst A is at)
