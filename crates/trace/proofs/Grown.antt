-- A text goes on after what waited: pages, and texts one after the other.
use Rattle.std.proofs.Common.{◌≡◌, ℕ, Option, Some, None, Result, Ok, Err, List, [], ◌++◌, take, drop, refl, sym, ap, ◌∙◌, append_assoc, append-nil, subst, inr, ◌⊎◌}
use Rattle.std.specs.Prelude.{OnErr, OnOk}
use Rattle.std.proofs.lemmas.List.{take-append-drop}
use Rattle.std.specs.Fmt.{option_append}
use Rattle.std.specs.Io.KnownBytes.{Appends}
use Rattle.std.proofs.KnownBytes.{Appends-trans, Appends-nil}
use Rattle.trace_lines.specs.Written.{IsPut}
use Rattle.trace_lines.proofs.Tests.{same_text, parts_of}
use Rattle.trace.specs.declared.page.Page.{Page}
use Rattle.trace.specs.Growing.{Goes, PrintsOn, IsFront, StopsIn}
use Rattle.trace.specs.Pages.{Passed, IsCut}
use Rattle.trace.proofs.Printing.{append_nothing, nothing_append}

-- where a write failed, no more than a front of what waited and of the text is out
abbrev pub Fronts : Option (List ℕ) → List ℕ → Option (List ℕ) → Option (List ℕ) → Type 0
Fronts text before old new = (more : List ℕ) → text ≡ Some more → IsFront (before ++ more) old new

-- ---- pages

pub goes_passed : (text : Option (List ℕ)) (before page : Page) (old new : Option (List ℕ)) (failed fails : ℕ) → Passed text before old failed page new fails → Goes text before.text old page.text new
goes_passed text before page old new failed fails passed = record { more = passed.more; is = passed.is; handed = passed.handed; whole = passed.whole; told = passed.told }

pub fronts_cut : (text : Option (List ℕ)) (before : Page) (old new : Option (List ℕ)) (failed fails written : ℕ) → IsCut text before old failed written new fails → Fronts text before.text old new
fronts_cut text before old new failed fails written cut = λ more is.
    let begun = cut.front more is in
    record { handed = begun.handed; rest = begun.rest; whole = begun.whole; told = begun.told }

-- ---- texts

pub goes_none : (waiting : List ℕ) (old : Option (List ℕ)) → Goes (Some []) waiting old waiting old
goes_none waiting old = record { more = []; is = refl; handed = []; whole = append-nil waiting; told = Appends-nil old }

-- all of it is taken
pub goes_out : (text : List ℕ) (old new : Option (List ℕ)) → Appends old new text → Goes (Some []) text old [] new
goes_out text old new told = record { more = []; is = refl; handed = text; whole = refl; told = told }

-- so many bytes of it are taken
pub goes_taken : (text : List ℕ) (taken : ℕ) (old new : Option (List ℕ)) → Appends old new (take taken text) → Goes (Some []) text old (drop taken text) new
goes_taken text taken old new told = record { more = []; is = refl; handed = take taken text; whole = append-nil text ∙ sym (take-append-drop taken text); told = told }

pub goes_put : (text : Option (List ℕ)) (before waiting : List ℕ) (old : Option (List ℕ)) → IsPut text before waiting → Goes text before old waiting old
goes_put None before waiting old put = absurd cc
goes_put (Some more) before waiting old put = record { more = more; is = refl; handed = []; whole = same_text (before ++ more) waiting put; told = Appends-nil old }

pub goes_both : (a b : Option (List ℕ)) (before mid waiting : List ℕ) (old between new : Option (List ℕ)) → Goes a before old mid between → Goes b mid between waiting new → Goes (option_append a b) before old waiting new
goes_both a b before mid waiting old between new first second = record {
  more = first.more ++ second.more;
  is = rw (first.is, second.is) refl;
  handed = first.handed ++ second.handed;
  whole = sym (append_assoc before first.more second.more)
      ∙ ap (λ (t : List ℕ). t ++ second.more) first.whole
      ∙ append_assoc first.handed mid second.more
      ∙ ap (λ (t : List ℕ). first.handed ++ t) second.whole
      ∙ sym (append_assoc first.handed second.handed waiting);
  told = Appends-trans old between new first.handed second.handed first.told second.told;
}

-- a text went on, and then a write failed
pub fronts_behind : (a b : Option (List ℕ)) (before mid : List ℕ) (old between new : Option (List ℕ)) → Goes a before old mid between → Fronts b mid between new → Fronts (option_append a b) before old new
fronts_behind a b before mid old between new first second = λ more is.
    let parts = parts_of a b more is in
    let one : first.more ≡ parts.0 = same_text first.more parts.0 (sym first.is ∙ parts.2) in
    let behind = second parts.1 parts.3 in
    record {
      handed = first.handed ++ behind.handed;
      rest = behind.rest;
      whole = ap (λ (t : List ℕ). before ++ t) (parts.4 ∙ ap (λ (t : List ℕ). t ++ parts.1) (sym one))
          ∙ sym (append_assoc before first.more parts.1)
          ∙ ap (λ (t : List ℕ). t ++ parts.1) first.whole
          ∙ append_assoc first.handed mid parts.1
          ∙ ap (λ (t : List ℕ). first.handed ++ t) behind.whole
          ∙ sym (append_assoc first.handed behind.handed behind.rest);
      told = Appends-trans old between new first.handed behind.handed first.told behind.told;
    }

-- a write failed, and more was to come
pub fronts_before : (a b : Option (List ℕ)) (before : List ℕ) (old new : Option (List ℕ)) → Fronts a before old new → Fronts (option_append a b) before old new
fronts_before a b before old new first = λ more is.
    let parts = parts_of a b more is in
    let begun = first parts.0 parts.2 in
    record {
      handed = begun.handed;
      rest = begun.rest ++ parts.1;
      whole = ap (λ (t : List ℕ). before ++ t) parts.4
          ∙ sym (append_assoc before parts.0 parts.1)
          ∙ ap (λ (t : List ℕ). t ++ parts.1) begun.whole
          ∙ append_assoc begun.handed begun.rest parts.1;
      told = begun.told;
    }

-- a text that is put where there was no room before
pub goes_behind_room : (text : Option (List ℕ)) (before mid waiting : List ℕ) (old new : Option (List ℕ)) → Goes (Some []) before old mid new → IsPut text mid waiting → Goes text before old waiting new
goes_behind_room text before mid waiting old new room put =
    subst (λ (t : Option (List ℕ)). Goes t before old waiting new) (nothing_append text) (goes_both (Some []) text before mid waiting old new new room (goes_put text mid waiting new put))

pub fronts_no_room : (text : Option (List ℕ)) (before : List ℕ) (old new : Option (List ℕ)) → Fronts (Some []) before old new → Fronts text before old new
fronts_no_room text before old new room =
    subst (λ (t : Option (List ℕ)). Fronts t before old new) (nothing_append text) (fronts_before (Some []) text before old new room)

-- a text went on, and all of it is handed on, or a write failed
pub goes_handed : (text : Option (List ℕ)) (before mid waiting : List ℕ) (old between new : Option (List ℕ)) → Goes text before old mid between → Goes (Some []) mid between waiting new → Goes text before old waiting new
goes_handed text before mid waiting old between new first second =
    subst (λ (t : Option (List ℕ)). Goes t before old waiting new) (append_nothing text) (goes_both text (Some []) before mid waiting old between new first second)

pub fronts_handed : (text : Option (List ℕ)) (before mid : List ℕ) (old between new : Option (List ℕ)) → Goes text before old mid between → Fronts (Some []) mid between new → Fronts text before old new
fronts_handed text before mid old between new first second =
    subst (λ (t : Option (List ℕ)). Fronts t before old new) (append_nothing text) (fronts_behind text (Some []) before mid old between new first second)

pub goes_on_handed : {T E : Type 0} (text : Option (List ℕ)) (r : Result T E) (before mid waiting : List ℕ) (old between new : Option (List ℕ)) → Goes text before old mid between
    → PrintsOn (Some []) mid between r waiting new → OnOk r (waiting ≡ []) → PrintsOn text before old r [] new
goes_on_handed text (Ok done) before mid waiting old between new first second all = subst (λ (t : List ℕ). Goes text before old t new) all (goes_handed text before mid waiting old between new first second)
goes_on_handed text (Err fault) before mid waiting old between new first second all = fronts_handed text before mid old between new first second

-- ---- where a write failed

-- at nothing more, or at a text that there is
pub stops_at : (more before : List ℕ) (old new : Option (List ℕ)) → Fronts (Some more) before old new → StopsIn (Some more) before old new
stops_at more before old new fronts = record { more = more; is = refl; front = fronts more refl }

-- at nothing more after a text that went on
pub stops_behind : (text : Option (List ℕ)) (before mid : List ℕ) (old between new : Option (List ℕ)) → Goes text before old mid between → StopsIn (Some []) mid between new → StopsIn text before old new
stops_behind text before mid old between new first second =
    let none : second.more ≡ [] = same_text second.more [] (sym second.is) in
    let rest : IsFront mid between new = subst (λ (t : List ℕ). IsFront t between new) (ap (λ (t : List ℕ). mid ++ t) none ∙ append-nil mid) second.front in
    record {
      more = first.more;
      is = first.is;
      front = record {
        handed = first.handed ++ rest.handed;
        rest = rest.rest;
        whole = first.whole ∙ ap (λ (t : List ℕ). first.handed ++ t) rest.whole ∙ sym (append_assoc first.handed rest.handed rest.rest);
        told = Appends-trans old between new first.handed rest.handed first.told rest.told;
      };
    }

-- at a text after one that went on
pub stops_on : (a b : Option (List ℕ)) (before mid : List ℕ) (old between new : Option (List ℕ)) → Goes a before old mid between → StopsIn b mid between new → StopsIn (option_append a b) before old new
stops_on a b before mid old between new first second =
    let is : option_append a b ≡ Some (first.more ++ second.more) = rw (first.is, second.is) refl in
    record {
      more = first.more ++ second.more;
      is = is;
      front = fronts_behind a b before mid old between new first (λ more same. subst (λ (t : List ℕ). IsFront (mid ++ t) between new) (same_text second.more more (sym second.is ∙ same)) second.front) (first.more ++ second.more) is;
    }

-- or where what was handed on was all that waited, with the text in it
pub stops_put : (text : Option (List ℕ)) (before mid waiting : List ℕ) (old between new : Option (List ℕ)) → Goes (Some []) before old mid between → IsPut text mid waiting → Fronts (Some []) waiting between new → StopsIn text before old new
stops_put text before mid waiting old between new room put fronts =
    stops_behind text before waiting old between new (goes_behind_room text before mid waiting old between room put) (stops_at [] waiting between new fronts)

pub stops_ended : {T E : Type 0} (text : Option (List ℕ)) (r : Result T E) (before mid waiting left : List ℕ) (old between new : Option (List ℕ)) → Goes (Some []) before old mid between → IsPut text mid waiting
    → PrintsOn (Some []) waiting between r left new → OnErr r (StopsIn (Some []) before old new ⊎ StopsIn text before old new)
stops_ended text (Ok done) before mid waiting left old between new room put goes = tt
stops_ended text (Err fault) before mid waiting left old between new room put goes = inr (stops_put text before mid waiting old between new room put goes)
