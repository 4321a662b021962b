-- What the rows after a word ask for, and that the plan which was found after it is that.
use Rattle.std.proofs.Common.{Global, ◌≡◌, Bool, true, false, List, [], Option, None, Some, codes, refl, sym, subst, ap}
use Rattle.std.specs.Prelude.{MatchBool, String, if◌then◌else◌, option_map, string_bytes, unwrap_or}
use Rattle.std.specs.Str.{bytes_eq}
use Rattle.std.proofs.lemmas.Slice.Eq.{bytes_eq-Decides}
use Rattle.clap.specs.Words.{Row, Text, first_of}
use Rattle.cli_line.specs.FileLines.{Asked, IsAsked}
use Rattle.cli_line.specs.FileLines.Asked.{Asm, Dis, Check, Migrate, Live, Reopen, Journal, Audit, Replay}
use Rattle.cli_line.specs.FoundPlan.{HasFoundBehind}
use Rattle.cli_line.specs.declared.plans.LaterVersion.TheVariants.{Two, Three}
use Rattle.cli_line.specs.declared.plans.Manner.{Manner}
use Rattle.cli_line.specs.declared.plans.Plan.{Plan}
use Rattle.cli_line.specs.declared.plans.Plan.TheVariants as plans

-- the word that was found, and whether it is that of a flag which is given
abbrev pub word_at : Text → List Row → Text
word_at id rows = unwrap_or (first_of id rows) []

abbrev pub is_told : Option Text → Bool
is_told None = false
is_told (Some word) = bytes_eq word (codes "true")

-- what is asked for after `live`, if what is counted goes nowhere
abbrev pub live_in : List Row → (metrics journal manifest : Option Text) → Option Asked
live_in rows (Some path) journal manifest = None
live_in rows None None manifest = Some (Live (is_told (first_of (codes "clock") rows)) (is_told (first_of (codes "step") rows)) (is_told (first_of (codes "ack") rows)) (unwrap_or manifest []))
live_in rows None (Some folder) None =
    Some (Reopen (is_told (first_of (codes "sync") rows)) (is_told (first_of (codes "clock") rows)) (is_told (first_of (codes "step") rows)) (is_told (first_of (codes "ack") rows)) folder)
live_in rows None (Some folder) (Some manifest) =
    Some (Journal (is_told (first_of (codes "sync") rows)) (is_told (first_of (codes "clock") rows)) (is_told (first_of (codes "step") rows)) (is_told (first_of (codes "ack") rows)) folder manifest)

-- what is asked for after `migrate`, by the word of the version
abbrev pub migrated_in : Option Text → (manifest migrated : Text) → Option Asked
migrated_in None manifest migrated = None
migrated_in (Some word) manifest migrated =
    if bytes_eq word (codes "2") then Some (Migrate Two manifest migrated)
    else (if bytes_eq word (codes "3") then Some (Migrate Three manifest migrated)
    else None)

-- what is asked for
abbrev pub asked_in : Text → List Row → Option Asked
asked_in name rows =
    if bytes_eq name (codes "asm") then Some (Asm (word_at (codes "IN") rows) (word_at (codes "OUT") rows))
    else (if bytes_eq name (codes "dis") then Some (Dis (word_at (codes "FILE") rows))
    else (if bytes_eq name (codes "check") then Some (Check (word_at (codes "MANIFEST") rows))
    else (if bytes_eq name (codes "migrate") then migrated_in (first_of (codes "to") rows) (word_at (codes "IN") rows) (word_at (codes "OUT") rows)
    else (if bytes_eq name (codes "live")
    then live_in rows (first_of (codes "metrics") rows) (first_of (codes "journal") rows) (first_of (codes "MANIFEST") rows)
    else (if bytes_eq name (codes "audit") then Some (Audit (word_at (codes "DIR") rows))
    else (if bytes_eq name (codes "replay") then Some (Replay (word_at (codes "MANIFEST") rows) (word_at (codes "TRACE") rows))
    else None))))))

-- the plan is that, if anything is asked for
abbrev pub MeetsAsked : Option Asked → Plan → Type 0
MeetsAsked None plan = Unit {0}
MeetsAsked (Some asked) plan = IsAsked asked plan

pub found_word : (id : Text) (rows : List Row) (word : Text) → first_of id rows ≡ Some word → word ≡ word_at id rows
found_word id rows word is = ap (λ (o : Option Text). unwrap_or o []) (sym is)

pub told_as : (o : Option Text) (b : Bool) → MatchBool b (o ≡ Some (codes "true")) (o ≡ Some (codes "true") → ⊥) → b ≡ is_told o
told_as o true is = ap is_told (sym is)
told_as None false differs = refl
told_as (Some word) false differs = go (bytes_eq word (codes "true")) refl
  where
    go : (b : Bool) → bytes_eq word (codes "true") ≡ b → false ≡ bytes_eq word (codes "true")
    go false is = sym is
    go true is = absurd (differs (ap Some ((bytes_eq-Decides word (codes "true")).0 is)))

-- the flags that say how lines are carried out
abbrev HasFlags : List Row → Manner → Type 0
HasFlags rows manner = (manner.is_clocked ≡ is_told (first_of (codes "clock") rows)) × (manner.is_stepped ≡ is_told (first_of (codes "step") rows)) × (manner.is_told ≡ is_told (first_of (codes "ack") rows))

-- what was found without a journal is what is asked for
alone_asked : (rows : List Row) (manner : Manner) (a : String Global) (metrics manifest : Option Text) → metrics ≡ option_map string_bytes manner.metrics → manifest ≡ Some (string_bytes a)
    → HasFlags rows manner → MeetsAsked (live_in rows metrics None manifest) (plans.Live manner a)
alone_asked rows manner a None manifest nowhere found flags = ((flags.0, flags.1, flags.2, sym nowhere), ap (λ (o : Option Text). unwrap_or o []) (sym found))
alone_asked rows manner a (Some path) manifest somewhere found flags = tt

-- so is what was found with one
kept_asked : (rows : List Row) (manner : Manner) (synced : Bool) (a : String Global) (b : Option (String Global)) (metrics manifest : Option Text) → metrics ≡ option_map string_bytes manner.metrics → manifest ≡ option_map string_bytes b
    → HasFlags rows manner → synced ≡ is_told (first_of (codes "sync") rows) → MeetsAsked (live_in rows metrics (Some (string_bytes a)) manifest) (plans.Journal manner synced a b)
kept_asked rows manner synced a b None None nowhere found flags sync = ((flags.0, flags.1, flags.2, sym nowhere), sync, refl, sym found)
kept_asked rows manner synced a b None (Some manifest) nowhere found flags sync = ((flags.0, flags.1, flags.2, sym nowhere), sync, refl, sym found)
kept_asked rows manner synced a b (Some path) manifest somewhere found flags sync = tt

module _ (name : Text) (rows : List Row) where
  -- the plan is after that word
  by_word : (other : Text) (plan : Plan) → name ≡ other → MeetsAsked (asked_in other rows) plan → MeetsAsked (asked_in name rows) plan
  by_word other plan is h = subst (λ (n : Text). MeetsAsked (asked_in n rows) plan) (sym is) h

  -- what was found is what is asked for
  pub found_asked : (plan : Plan) → HasFoundBehind name rows plan → MeetsAsked (asked_in name rows) plan
  found_asked (plans.Run workers watch a b) found = by_word (codes "run") (plans.Run workers watch a b) found.0 tt
  found_asked (plans.Strict workers watch a b) found = by_word (codes "run") (plans.Strict workers watch a b) found.0 tt
  found_asked (plans.Asm a b) found = by_word (codes "asm") (plans.Asm a b) found.0 (found_word (codes "IN") rows _ found.1, found_word (codes "OUT") rows _ found.2)
  found_asked (plans.Migrate Two a b) found = by_word (codes "migrate") (plans.Migrate Two a b) found.0
      (subst (λ (o : Option Text). MeetsAsked (migrated_in o (word_at (codes "IN") rows) (word_at (codes "OUT") rows)) (plans.Migrate Two a b)) (sym found.1)
      (refl, found_word (codes "IN") rows _ found.2, found_word (codes "OUT") rows _ found.3))
  found_asked (plans.Migrate Three a b) found = by_word (codes "migrate") (plans.Migrate Three a b) found.0
      (subst (λ (o : Option Text). MeetsAsked (migrated_in o (word_at (codes "IN") rows) (word_at (codes "OUT") rows)) (plans.Migrate Three a b)) (sym found.1)
      (refl, found_word (codes "IN") rows _ found.2, found_word (codes "OUT") rows _ found.3))
  found_asked (plans.Dis a) found = by_word (codes "dis") (plans.Dis a) found.0 (found_word (codes "FILE") rows _ found.1)
  found_asked (plans.Check a) found = by_word (codes "check") (plans.Check a) found.0 (found_word (codes "MANIFEST") rows _ found.1)
  found_asked (plans.Live manner a) found = by_word (codes "live") (plans.Live manner a) found.0
      (subst (λ (o : Option Text). MeetsAsked (live_in rows (first_of (codes "metrics") rows) o (first_of (codes "MANIFEST") rows)) (plans.Live manner a)) (sym found.3)
      (alone_asked rows manner a (first_of (codes "metrics") rows) (first_of (codes "MANIFEST") rows) found.2.3 found.1
      (told_as (first_of (codes "clock") rows) manner.is_clocked found.2.0, told_as (first_of (codes "step") rows) manner.is_stepped found.2.1, told_as (first_of (codes "ack") rows) manner.is_told found.2.2)))
  found_asked (plans.Journal manner is_synced a b) found = by_word (codes "live") (plans.Journal manner is_synced a b) found.0
      (subst (λ (o : Option Text). MeetsAsked (live_in rows (first_of (codes "metrics") rows) o (first_of (codes "MANIFEST") rows)) (plans.Journal manner is_synced a b)) (sym found.1)
      (kept_asked rows manner is_synced a b (first_of (codes "metrics") rows) (first_of (codes "MANIFEST") rows) found.3.3 found.2
      (told_as (first_of (codes "clock") rows) manner.is_clocked found.3.0, told_as (first_of (codes "step") rows) manner.is_stepped found.3.1, told_as (first_of (codes "ack") rows) manner.is_told found.3.2)
      (told_as (first_of (codes "sync") rows) is_synced found.4)))
  found_asked (plans.Audit a) found = by_word (codes "audit") (plans.Audit a) found.0 (found_word (codes "DIR") rows _ found.1)
  found_asked (plans.Replay a b) found = by_word (codes "replay") (plans.Replay a b) found.0 (found_word (codes "MANIFEST") rows _ found.1, found_word (codes "TRACE") rows _ found.2)
