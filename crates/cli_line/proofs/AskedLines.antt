-- What `clap` makes of the lines that ask for something other than a run: it refuses nothing of them, and finds what they ask for.
use Rattle.std.proofs.Common.{◌≡◌, ◌∙◌, Bool, List, [], ◌∷◌, Option, None, Some, true, false, ap, ap₂, codes, map, refl, subst}
use Rattle.std.specs.Prelude.{MatchBool}
use Rattle.std.specs.Str.{bytes_eq}
use Rattle.clap.specs.Words.{Row, Shape, Text, subcommand_of}
use Rattle.clap.specs.Walk.{Held, Walk, arg_by_id, finished, idle, nothing_held, option, option_word, settled, value, walked, walked_from}
use Rattle.clap.specs.Faults.{defaults_fault, step_fault, turn_fault}
use Rattle.clap.specs.Kinds.{Kinds, or_else}
use Rattle.cli_line.specs.FileLines.{ArePlain, Asked, IsAsked, flagged, line_of, live_words}
use Rattle.cli_line.specs.FileLines.Asked.{Asm, Dis, Check, Migrate, Live, Reopen, Journal, Audit, Replay}
use Rattle.cli_line.specs.FoundPlan.{HasFound, MakesNoRun, PlansFound, Suffices}
use Rattle.cli_line.specs.declared.plans.LaterVersion.TheVariants.{Two, Three}
use Rattle.cli_line.specs.RunCommand.{camr_command}
use Rattle.cli_line.specs.RunLine.{IsPlain, spelled_out}
use Rattle.cli_line.proofs.AskedRows.{MeetsAsked, asked_in, found_asked}
use Rattle.cli_line.proofs.Clear.{IsClear}
use Rattle.cli_line.proofs.CommandWords.{IsWordOf, command_enters, command_fault, shape_of}
use Rattle.cli_line.proofs.PlainWords.{turn_value, walk_at, walked_value}
use Rattle.cli_line.proofs.Planned.{not_given}
use Rattle.cli_line.proofs.SpelledOut.{plain_out}
use Rattle.cli_line.proofs.Traces.{Trace, end_fault, path_walk, start, trace_both, trace_last, trace_more, trace_nil, traced_fault, traced_rows}

-- the word that such a line begins with
abbrev word_of : Asked → Text
word_of (Asm text program) = codes "asm"
word_of (Dis program) = codes "dis"
word_of (Check manifest) = codes "check"
word_of (Migrate to manifest migrated) = codes "migrate"
word_of (Live is_clocked is_stepped is_told manifest) = codes "live"
word_of (Reopen is_synced is_clocked is_stepped is_told folder) = codes "live"
word_of (Journal is_synced is_clocked is_stepped is_told folder manifest) = codes "live"
word_of (Audit folder) = codes "audit"
word_of (Replay manifest trace) = codes "replay"

abbrev shape : Asked → Shape
shape asked = shape_of (word_of asked)

is_word : (asked : Asked) → IsWordOf (word_of asked) (shape asked)
unfolding walked
is_word (Asm text program) = record { stops = refl; faultless = refl; found = refl; named = refl }
is_word (Dis program) = record { stops = refl; faultless = refl; found = refl; named = refl }
is_word (Check manifest) = record { stops = refl; faultless = refl; found = refl; named = refl }
is_word (Migrate to manifest migrated) = record { stops = refl; faultless = refl; found = refl; named = refl }
is_word (Live is_clocked is_stepped is_told manifest) = record { stops = refl; faultless = refl; found = refl; named = refl }
is_word (Reopen is_synced is_clocked is_stepped is_told folder) = record { stops = refl; faultless = refl; found = refl; named = refl }
is_word (Journal is_synced is_clocked is_stepped is_told folder manifest) = record { stops = refl; faultless = refl; found = refl; named = refl }
is_word (Audit folder) = record { stops = refl; faultless = refl; found = refl; named = refl }
is_word (Replay manifest trace) = record { stops = refl; faultless = refl; found = refl; named = refl }

-- a line is clear, by its trace
module _ (asked : Asked) (rest : List Text) (f : Kinds) (end : Walk) (trace : Trace (shape asked) start rest f end) where
  abbrev rows : List Row
  rows = finished (shape asked).rules end.held

  enters : subcommand_of camr_command (word_of asked ∷ rest) ≡ Some (word_of asked, rows)
  enters = command_enters (word_of asked) (shape asked) (is_word asked) rest
      ∙ ap (λ (r : List Row). Some (word_of asked, r)) (traced_rows (shape asked) rest f end trace)

  clear : end_fault (shape asked) f end ≡ [] → asked_in (word_of asked) rows ≡ Some asked → Suffices (word_of asked) rows
      → bytes_eq (word_of asked) (codes "run") ≡ false → map spelled_out (word_of asked ∷ rest) ≡ word_of asked ∷ rest
      → IsClear PlansFound (word_of asked ∷ rest) (IsAsked asked)
  clear fails asks suffices is_other spelled = record {
    out = spelled;
    faultless = command_fault (word_of asked) (shape asked) (is_word asked) rest ∙ (traced_fault (shape asked) rest f end trace ∙ fails);
    plans = λ plan found. subst (λ o. MeetsAsked o plan) asks (found_asked (word_of asked) rows plan (subst (λ o. HasFound o plan) enters found.0));
    some = λ none. subst (λ b. MatchBool b (MakesNoRun rows) (Suffices (word_of asked) rows → ⊥)) is_other (none (word_of asked) rows enters) suffices;
  }

-- ---- what is held after flags and options

abbrev live_shape : Shape
live_shape = shape_of (codes "live")

-- what is held after a flag
abbrev set : Text → Held → Held
set flag h = (walked_from live_shape.rules [] None (walk_at h idle 1) flag).held

-- after one that may be given
abbrev given : Bool → Text → Held → Held
given true flag h = set flag h
given false flag h = h

clock_walked : (h : Held) → walked live_shape.rules [] (walk_at h idle 1) (codes "--clock") ≡ walk_at (set (codes "--clock") h) idle 1
unfolding walked
clock_walked h = refl

step_walked : (h : Held) → walked live_shape.rules [] (walk_at h idle 1) (codes "--step") ≡ walk_at (set (codes "--step") h) idle 1
unfolding walked
step_walked h = refl

ack_walked : (h : Held) → walked live_shape.rules [] (walk_at h idle 1) (codes "--ack") ≡ walk_at (set (codes "--ack") h) idle 1
unfolding walked
ack_walked h = refl

sync_walked : (h : Held) → walked live_shape.rules [] (walk_at h idle 1) (codes "--sync") ≡ walk_at (set (codes "--sync") h) idle 1
unfolding walked
sync_walked h = refl

-- the faults of a flag that may be given, and those after it
abbrev flag_fault : Bool → Text → Held → Kinds → Kinds
flag_fault true flag h g = or_else (turn_fault live_shape [] (walk_at h idle 1) flag) g
flag_fault false flag h g = g

-- a flag that may be given
trace_flag : (is_given : Bool) (flag : Text) (h : Held) (rest : List Text) (g : Kinds) (end : Walk) → walked live_shape.rules [] (walk_at h idle 1) flag ≡ walk_at (set flag h) idle 1
    → Trace live_shape (walk_at (given is_given flag h) idle 1) rest g end → Trace live_shape (walk_at h idle 1) (flagged is_given flag rest) (flag_fault is_given flag h g) end
trace_flag true flag h rest g end step more = trace_more (walk_at h idle 1) (walk_at (set flag h) idle 1) end flag rest (turn_fault live_shape [] (walk_at h idle 1) flag) g step refl more
trace_flag false flag h rest g end step more = more

-- what is held after the flags that say how lines are carried out
abbrev manner_held : (is_clocked is_stepped is_told : Bool) → Held → Held
manner_held is_clocked is_stepped is_told h = given is_told (codes "--ack") (given is_stepped (codes "--step") (given is_clocked (codes "--clock") h))

-- the faults of these
abbrev manner_fault : (is_clocked is_stepped is_told : Bool) → Held → Kinds → Kinds
manner_fault is_clocked is_stepped is_told h g =
    let clocked = given is_clocked (codes "--clock") h in
    flag_fault is_clocked (codes "--clock") h (flag_fault is_stepped (codes "--step") clocked (flag_fault is_told (codes "--ack") (given is_stepped (codes "--step") clocked) g))

trace_manner : (is_clocked is_stepped is_told : Bool) (h : Held) (rest : List Text) (g : Kinds) (end : Walk) → Trace live_shape (walk_at (manner_held is_clocked is_stepped is_told h) idle 1) rest g end
    → Trace live_shape (walk_at h idle 1) (live_words is_clocked is_stepped is_told rest) (manner_fault is_clocked is_stepped is_told h g) end
trace_manner is_clocked is_stepped is_told h rest g end more =
    let clocked : Held = given is_clocked (codes "--clock") h in
    let stepped : Held = given is_stepped (codes "--step") clocked in
    trace_flag is_clocked (codes "--clock") h _ _ end (clock_walked h)
    (trace_flag is_stepped (codes "--step") clocked _ _ end (step_walked clocked)
    (trace_flag is_told (codes "--ack") stepped rest g end (ack_walked stepped) more))

-- the flags are words that stand as they are
flag_out : (is_given : Bool) (flag : Text) (words : List Text) → spelled_out flag ≡ flag → map spelled_out words ≡ words → map spelled_out (flagged is_given flag words) ≡ flagged is_given flag words
flag_out true flag words same rest = ap₂ (λ (w : Text) (ws : List Text). w ∷ ws) same rest
flag_out false flag words same rest = rest

manner_out : (is_clocked is_stepped is_told : Bool) (words : List Text) → map spelled_out words ≡ words → map spelled_out (live_words is_clocked is_stepped is_told words) ≡ live_words is_clocked is_stepped is_told words
manner_out is_clocked is_stepped is_told words rest =
    flag_out is_clocked (codes "--clock") (flagged is_stepped (codes "--step") (flagged is_told (codes "--ack") words)) refl
    (flag_out is_stepped (codes "--step") (flagged is_told (codes "--ack") words) refl (flag_out is_told (codes "--ack") words refl rest))

-- `--journal` and its folder
abbrev asks_journal : Held
asks_journal = record (settled live_shape.rules nothing_held) { pending = Some (codes "journal", []) }

abbrev journal_walk : Text → Walk
journal_walk folder = let pair = option_word (arg_by_id live_shape.rules (codes "journal")) (codes "journal") folder asks_journal in walk_at pair.0 pair.1 1

journal_walked : walked live_shape.rules [] start (codes "--journal") ≡ walk_at asks_journal (option (codes "journal")) 1
unfolding walked
journal_walked = refl

trace_journal : (folder : Text) (rest : List Text) (g : Kinds) (end : Walk) → IsPlain folder → Trace live_shape (journal_walk folder) rest g end
    → Trace live_shape start (codes "--journal" ∷ folder ∷ rest) (or_else [] g) end
trace_journal folder rest g end plain more =
    trace_more start (walk_at asks_journal (option (codes "journal")) 1) end (codes "--journal") (folder ∷ rest) [] g journal_walked refl
    (trace_more (walk_at asks_journal (option (codes "journal")) 1) (journal_walk folder) end folder rest [] g
    (walked_value live_shape.rules asks_journal (codes "journal") 1 folder plain)
    (turn_value live_shape asks_journal (codes "journal") 1 folder plain) more)

-- ---- `--to` and its version

abbrev migrate_shape : Shape
migrate_shape = shape_of (codes "migrate")

abbrev asks_to : Held
asks_to = record (settled migrate_shape.rules nothing_held) { pending = Some (codes "to", []) }

-- what is held after both
abbrev to_held : Held
to_held = (option_word (arg_by_id migrate_shape.rules (codes "to")) (codes "to") (codes "3") asks_to).0

to_walked : walked migrate_shape.rules [] start (codes "--to") ≡ walk_at asks_to (option (codes "to")) 1
unfolding walked
to_walked = refl

trace_to : (rest : List Text) (g : Kinds) (end : Walk) → Trace migrate_shape (walk_at to_held idle 1) rest g end → Trace migrate_shape start (codes "--to" ∷ codes "3" ∷ rest) (or_else [] g) end
trace_to rest g end more =
    trace_more start (walk_at asks_to (option (codes "to")) 1) end (codes "--to") (codes "3" ∷ rest) [] g to_walked refl
    (trace_more (walk_at asks_to (option (codes "to")) 1) (walk_at to_held idle 1) end (codes "3") rest [] g
    (walked_value migrate_shape.rules asks_to (codes "to") 1 (codes "3") refl)
    (turn_value migrate_shape asks_to (codes "to") 1 (codes "3") refl) more)

-- ---- the lines after `live`

-- the words after the folder
abbrev kept_words : (is_synced is_clocked is_stepped is_told : Bool) → List Text → List Text
kept_words is_synced is_clocked is_stepped is_told words = flagged is_synced (codes "--sync") (live_words is_clocked is_stepped is_told words)

-- what is held after them
abbrev kept_held : (is_synced is_clocked is_stepped is_told : Bool) → Text → Held
kept_held is_synced is_clocked is_stepped is_told folder = manner_held is_clocked is_stepped is_told (given is_synced (codes "--sync") (journal_walk folder).held)

-- the faults of these
abbrev kept_fault : (is_synced is_clocked is_stepped is_told : Bool) → Text → Kinds → Kinds
kept_fault is_synced is_clocked is_stepped is_told folder g =
    let h = (journal_walk folder).held in
    or_else [] (flag_fault is_synced (codes "--sync") h (manner_fault is_clocked is_stepped is_told (given is_synced (codes "--sync") h) g))

trace_kept : (is_synced is_clocked is_stepped is_told : Bool) (folder : Text) (rest : List Text) (g : Kinds) (end : Walk) → IsPlain folder
    → Trace live_shape (walk_at (kept_held is_synced is_clocked is_stepped is_told folder) idle 1) rest g end
    → Trace live_shape start (codes "--journal" ∷ folder ∷ kept_words is_synced is_clocked is_stepped is_told rest) (kept_fault is_synced is_clocked is_stepped is_told folder g) end
trace_kept is_synced is_clocked is_stepped is_told folder rest g end plain more =
    let h : Held = (journal_walk folder).held in
    trace_journal folder (kept_words is_synced is_clocked is_stepped is_told rest) _ end plain
    (trace_flag is_synced (codes "--sync") h (live_words is_clocked is_stepped is_told rest) _ end (sync_walked h)
    (trace_manner is_clocked is_stepped is_told (given is_synced (codes "--sync") h) rest g end more))

kept_out : (is_synced is_clocked is_stepped is_told : Bool) (folder : Text) (words : List Text) → IsPlain folder → map spelled_out words ≡ words
    → map spelled_out (codes "live" ∷ codes "--journal" ∷ folder ∷ kept_words is_synced is_clocked is_stepped is_told words) ≡ codes "live" ∷ codes "--journal" ∷ folder ∷ kept_words is_synced is_clocked is_stepped is_told words
kept_out is_synced is_clocked is_stepped is_told folder words plain rest =
    ap₂ (λ (f : Text) (ws : List Text). codes "live" ∷ codes "--journal" ∷ f ∷ ws) (plain_out folder plain)
    (flag_out is_synced (codes "--sync") (live_words is_clocked is_stepped is_told words) refl (manner_out is_clocked is_stepped is_told words rest))

-- each is clear, by what is found at its end
live_clear : (is_clocked is_stepped is_told : Bool) (manifest : Text) → IsPlain manifest
    → let h = manner_held is_clocked is_stepped is_told nothing_held in
    let end = path_walk live_shape (walk_at h idle 1) manifest in
    end_fault live_shape (manner_fault is_clocked is_stepped is_told nothing_held (or_else (step_fault live_shape 1 h value) [])) end ≡ [] → asked_in (codes "live") (finished live_shape.rules end.held) ≡ Some (Live is_clocked is_stepped is_told manifest)
    → Suffices (codes "live") (finished live_shape.rules end.held) → IsClear PlansFound (line_of (Live is_clocked is_stepped is_told manifest)) (IsAsked (Live is_clocked is_stepped is_told manifest))
live_clear is_clocked is_stepped is_told manifest plain fails asks suffices =
    let h : Held = manner_held is_clocked is_stepped is_told nothing_held in
    clear (Live is_clocked is_stepped is_told manifest) (live_words is_clocked is_stepped is_told (manifest ∷ [])) _ _
    (trace_manner is_clocked is_stepped is_told nothing_held (manifest ∷ []) _ _ (trace_last h 1 manifest plain))
    fails asks suffices refl (ap (λ (ws : List Text). codes "live" ∷ ws) (manner_out is_clocked is_stepped is_told (manifest ∷ []) (λ i. plain_out manifest plain i ∷ [])))

reopen_clear : (is_synced is_clocked is_stepped is_told : Bool) (folder : Text) → IsPlain folder
    → let end = walk_at (kept_held is_synced is_clocked is_stepped is_told folder) idle 1 in
    end_fault live_shape (kept_fault is_synced is_clocked is_stepped is_told folder []) end ≡ [] → asked_in (codes "live") (finished live_shape.rules end.held) ≡ Some (Reopen is_synced is_clocked is_stepped is_told folder)
    → Suffices (codes "live") (finished live_shape.rules end.held) → IsClear PlansFound (line_of (Reopen is_synced is_clocked is_stepped is_told folder)) (IsAsked (Reopen is_synced is_clocked is_stepped is_told folder))
reopen_clear is_synced is_clocked is_stepped is_told folder plain fails asks suffices =
    clear (Reopen is_synced is_clocked is_stepped is_told folder) (codes "--journal" ∷ folder ∷ kept_words is_synced is_clocked is_stepped is_told []) _ _
    (trace_kept is_synced is_clocked is_stepped is_told folder [] _ _ plain (trace_nil (walk_at (kept_held is_synced is_clocked is_stepped is_told folder) idle 1)))
    fails asks suffices refl (kept_out is_synced is_clocked is_stepped is_told folder [] plain refl)

journal_clear : (is_synced is_clocked is_stepped is_told : Bool) (folder manifest : Text) → IsPlain folder × IsPlain manifest
    → let h = kept_held is_synced is_clocked is_stepped is_told folder in
    let end = path_walk live_shape (walk_at h idle 1) manifest in
    end_fault live_shape (kept_fault is_synced is_clocked is_stepped is_told folder (or_else (step_fault live_shape 1 h value) [])) end ≡ [] → asked_in (codes "live") (finished live_shape.rules end.held) ≡ Some (Journal is_synced is_clocked is_stepped is_told folder manifest)
    → Suffices (codes "live") (finished live_shape.rules end.held)
    → IsClear PlansFound (line_of (Journal is_synced is_clocked is_stepped is_told folder manifest)) (IsAsked (Journal is_synced is_clocked is_stepped is_told folder manifest))
journal_clear is_synced is_clocked is_stepped is_told folder manifest plain fails asks suffices =
    clear (Journal is_synced is_clocked is_stepped is_told folder manifest) (codes "--journal" ∷ folder ∷ kept_words is_synced is_clocked is_stepped is_told (manifest ∷ [])) _ _
    (trace_kept is_synced is_clocked is_stepped is_told folder (manifest ∷ []) _ _ plain.0 (trace_last (kept_held is_synced is_clocked is_stepped is_told folder) 1 manifest plain.1))
    fails asks suffices refl (kept_out is_synced is_clocked is_stepped is_told folder (manifest ∷ []) plain.0 (λ i. plain_out manifest plain.1 i ∷ []))

-- ---- the lines

pub asked_clear : (asked : Asked) → ArePlain asked → IsClear PlansFound (line_of asked) (IsAsked asked)
unfolding defaults_fault
asked_clear (Asm text program) plain = clear (Asm text program) _ _ _
    (trace_both nothing_held text program refl plain.0 plain.1)
    refl refl ((text, refl), ((program, refl), tt)) refl (λ i. codes "asm" ∷ plain_out text plain.0 i ∷ plain_out program plain.1 i ∷ [])
asked_clear (Dis program) plain = clear (Dis program) _ _ _
    (trace_last nothing_held 1 program plain)
    refl refl ((program, refl), tt) refl (λ i. codes "dis" ∷ plain_out program plain i ∷ [])
asked_clear (Check manifest) plain = clear (Check manifest) _ _ _
    (trace_last nothing_held 1 manifest plain)
    refl refl ((manifest, refl), tt) refl (λ i. codes "check" ∷ plain_out manifest plain i ∷ [])
asked_clear (Migrate Two manifest migrated) plain = clear (Migrate Two manifest migrated) _ _ _
    (trace_both nothing_held manifest migrated refl plain.0 plain.1)
    refl refl (((manifest, refl), ((migrated, refl), tt)), (Two, refl)) refl (λ i. codes "migrate" ∷ plain_out manifest plain.0 i ∷ plain_out migrated plain.1 i ∷ [])
asked_clear (Migrate Three manifest migrated) plain = clear (Migrate Three manifest migrated) (codes "--to" ∷ codes "3" ∷ manifest ∷ migrated ∷ []) _ _
    (trace_to (manifest ∷ migrated ∷ []) _ _ (trace_both to_held manifest migrated refl plain.0 plain.1))
    refl refl (((manifest, refl), ((migrated, refl), tt)), (Three, refl)) refl (λ i. codes "migrate" ∷ codes "--to" ∷ codes "3" ∷ plain_out manifest plain.0 i ∷ plain_out migrated plain.1 i ∷ [])
asked_clear (Live true true true manifest) plain = live_clear true true true manifest plain refl refl (not_given refl, ((manifest, refl), tt))
asked_clear (Live true true false manifest) plain = live_clear true true false manifest plain refl refl (not_given refl, ((manifest, refl), tt))
asked_clear (Live true false true manifest) plain = live_clear true false true manifest plain refl refl (not_given refl, ((manifest, refl), tt))
asked_clear (Live true false false manifest) plain = live_clear true false false manifest plain refl refl (not_given refl, ((manifest, refl), tt))
asked_clear (Live false true true manifest) plain = live_clear false true true manifest plain refl refl (not_given refl, ((manifest, refl), tt))
asked_clear (Live false true false manifest) plain = live_clear false true false manifest plain refl refl (not_given refl, ((manifest, refl), tt))
asked_clear (Live false false true manifest) plain = live_clear false false true manifest plain refl refl (not_given refl, ((manifest, refl), tt))
asked_clear (Live false false false manifest) plain = live_clear false false false manifest plain refl refl (not_given refl, ((manifest, refl), tt))
asked_clear (Reopen true true true true folder) plain = reopen_clear true true true true folder plain refl refl tt
asked_clear (Reopen true true true false folder) plain = reopen_clear true true true false folder plain refl refl tt
asked_clear (Reopen true true false true folder) plain = reopen_clear true true false true folder plain refl refl tt
asked_clear (Reopen true true false false folder) plain = reopen_clear true true false false folder plain refl refl tt
asked_clear (Reopen true false true true folder) plain = reopen_clear true false true true folder plain refl refl tt
asked_clear (Reopen true false true false folder) plain = reopen_clear true false true false folder plain refl refl tt
asked_clear (Reopen true false false true folder) plain = reopen_clear true false false true folder plain refl refl tt
asked_clear (Reopen true false false false folder) plain = reopen_clear true false false false folder plain refl refl tt
asked_clear (Reopen false true true true folder) plain = reopen_clear false true true true folder plain refl refl tt
asked_clear (Reopen false true true false folder) plain = reopen_clear false true true false folder plain refl refl tt
asked_clear (Reopen false true false true folder) plain = reopen_clear false true false true folder plain refl refl tt
asked_clear (Reopen false true false false folder) plain = reopen_clear false true false false folder plain refl refl tt
asked_clear (Reopen false false true true folder) plain = reopen_clear false false true true folder plain refl refl tt
asked_clear (Reopen false false true false folder) plain = reopen_clear false false true false folder plain refl refl tt
asked_clear (Reopen false false false true folder) plain = reopen_clear false false false true folder plain refl refl tt
asked_clear (Reopen false false false false folder) plain = reopen_clear false false false false folder plain refl refl tt
asked_clear (Journal true true true true folder manifest) plain = journal_clear true true true true folder manifest plain refl refl tt
asked_clear (Journal true true true false folder manifest) plain = journal_clear true true true false folder manifest plain refl refl tt
asked_clear (Journal true true false true folder manifest) plain = journal_clear true true false true folder manifest plain refl refl tt
asked_clear (Journal true true false false folder manifest) plain = journal_clear true true false false folder manifest plain refl refl tt
asked_clear (Journal true false true true folder manifest) plain = journal_clear true false true true folder manifest plain refl refl tt
asked_clear (Journal true false true false folder manifest) plain = journal_clear true false true false folder manifest plain refl refl tt
asked_clear (Journal true false false true folder manifest) plain = journal_clear true false false true folder manifest plain refl refl tt
asked_clear (Journal true false false false folder manifest) plain = journal_clear true false false false folder manifest plain refl refl tt
asked_clear (Journal false true true true folder manifest) plain = journal_clear false true true true folder manifest plain refl refl tt
asked_clear (Journal false true true false folder manifest) plain = journal_clear false true true false folder manifest plain refl refl tt
asked_clear (Journal false true false true folder manifest) plain = journal_clear false true false true folder manifest plain refl refl tt
asked_clear (Journal false true false false folder manifest) plain = journal_clear false true false false folder manifest plain refl refl tt
asked_clear (Journal false false true true folder manifest) plain = journal_clear false false true true folder manifest plain refl refl tt
asked_clear (Journal false false true false folder manifest) plain = journal_clear false false true false folder manifest plain refl refl tt
asked_clear (Journal false false false true folder manifest) plain = journal_clear false false false true folder manifest plain refl refl tt
asked_clear (Journal false false false false folder manifest) plain = journal_clear false false false false folder manifest plain refl refl tt
asked_clear (Audit folder) plain = clear (Audit folder) _ _ _
    (trace_last nothing_held 1 folder plain)
    refl refl ((folder, refl), tt) refl (λ i. codes "audit" ∷ plain_out folder plain i ∷ [])
asked_clear (Replay manifest trace) plain = clear (Replay manifest trace) _ _ _
    (trace_both nothing_held manifest trace refl plain.0 plain.1)
    refl refl ((manifest, refl), ((trace, refl), tt)) refl (λ i. codes "replay" ∷ plain_out manifest plain.0 i ∷ plain_out trace plain.1 i ∷ [])
